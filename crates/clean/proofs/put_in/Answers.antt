-- `clean::put_in` meets its contract. Assumes nothing.
use mathlib.Core.Path.{refl, ◌∙◌}
use native.Mathlib.Omega.{arith}
use lib.ListN.{take}
use lib.Seq.{length-take-le}
use Rattle.clean.proofs.Restoring.{first_in_lem, other_in}
use Rattle.clean.proofs.put_in.Goals as goal

pub returns-then-why-eq3 : goal.returns-then-why-eq3
returns-then-why-eq3 c =
    c.insert.ensures
    ∙ first_in_lem c.args.kept c.args.n c.args.place c.args.why (take c.args.n c.args.spots.now) (length-take-le c.args.n c.args.spots.now (omega (arith, c.requires.0)))
    c.if-why-eq3.true c.spot_at-first.ensures c.mark.ensures refl

pub returns : goal.returns
returns c =
    c.insert-2.ensures
    ∙ other_in c.args.kept c.args.n c.args.place c.args.why (take c.args.n c.args.spots.now) (length-take-le c.args.n c.args.spots.now (omega (arith, c.requires.0)))
    c.if-why-eq3.false c.saturating_sub.ensures c.spot_at-from.ensures c.least.ensures c.mark-2.ensures refl
