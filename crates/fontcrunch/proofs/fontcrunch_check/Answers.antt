-- `fontcrunch::fontcrunch_check` meets its contract. Assumes nothing.
use Rattle.fontcrunch.proofs.fontcrunch_check.Goals as goal

pub returns : goal.returns
returns c = record { answer = _; is = c.check_report.ensures; promise = c.check_chain.ensures }
