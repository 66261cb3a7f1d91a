use mathlib.Core.Path.{sym, ◌∙◌}
use Rattle.glif.proofs.Naming.{names_start, names_first_out, names_second_out, names_go, names_stop}
use Rattle.glif.proofs.names.same_name.Goals as goal

pub loop-i-init : goal.loop-i-init
loop-i-init c = names_start _ _ _

pub returns-then-bytes-j : goal.returns-then-bytes-j
returns-then-bytes-j c = sym (c.loop-i.invariant ∙ names_second_out c.args.bytes.now c.loop-i.i c.loop-i.j c.if-bytes-j.true)

pub loop-i-preserved : goal.loop-i-preserved
loop-i-preserved c = c.loop-i.invariant ∙ names_go c.args.bytes.now c.loop-i.i c.loop-i.j c.loop-i-test.true c.if-bytes-j.false c.is_name-goes.ensures c.both.ensures c.if-both.true

pub returns-else-both : goal.returns-else-both
returns-else-both c = names_stop c.args.bytes.now c.loop-i.i c.loop-i.j c.loop-i-test.true c.if-bytes-j.false c.is_name-goes.ensures c.both.ensures c.if-both.false c.is_name.ensures c.both-else-both.ensures ∙ sym c.loop-i.invariant

pub returns : goal.returns
returns c = sym (c.loop-i.invariant ∙ names_first_out c.args.bytes.now c.loop-i.i c.loop-i.j c.loop-i-test.false)
