-- `quickarclen::fill_guesses` meets its contract: its row keeps its length. Assumes nothing.
use Rattle.std.proofs.Common.{◌≡◌, length}
use Rattle.quickarclen.proofs.fill_guesses.Given as goal

abbrev pub invariant-loop-k : goal.invariant-loop-k
invariant-loop-k l = length l.guesses ≡ 20
