-- `fontcrunch::fontcrunch_crunch` meets its contract. Assumes nothing.
use Rattle.fontcrunch.proofs.fontcrunch_crunch.Goals as goal

pub returns : goal.returns
returns c = record { answer = _; is = c.crunch_report.ensures; promise = c.crunch_contour.ensures }
