-- `cubics::between`, which calls itself: the measure is the halvings left, which fall at each call.
use Rattle.cubics.proofs.+between.Given as goal

abbrev pub decreases-between : goal.decreases-between
decreases-between l = l.left
