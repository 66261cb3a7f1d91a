-- `fontcrunch::fontcrunch_chain` meets its contract. Assumes nothing.
use Rattle.fontcrunch.proofs.fontcrunch_chain.Goals as goal

pub returns : goal.returns
returns c = record { shown = record { answer = _; is = c.chain_report.ensures.is; promise = c.chain_of_run.ensures }; double = c.chain_report.ensures.double }
