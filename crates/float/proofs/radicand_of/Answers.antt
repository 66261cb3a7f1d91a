-- `float::radicand_of` meets its contract. Assumes nothing.
use Rattle.std.proofs.Common.{ℕ, ◌+◌, ◌-◌, ◌*◌, ◌/◌, ◌^◌, T, sym, ap, ◌∙◌, subst, arith}
use lib.Bits.{and_mask}
use lib.Ieee.{Float, binary64, fits, to_bits, of_bits, div}
use Rattle.float.specs.Float.{root_units}
use Rattle.float.specs.Steps.{Leaves}
use Rattle.float.proofs.Number.{more}
use Rattle.float.proofs.Read.{infinite, null, none, Read, read_bits}
use Rattle.float.proofs.radicand_of.Goals as goal
use Rattle.float.proofs.radicand_of.Goals.{Start, Then-x-2}

held : (c : Start) → T (fits binary64 c.args.x)
held c = subst T (sym c.well_formed.0.1) tt

-- x is finite and above zero: its bits
bits : (c : Then-x-2) → Read c.args.x (to_bits binary64 c.args.x)
unfolding of_bits div
bits c = read_bits _ (held c.before.before) c.if-x.true c.if-x-2.true

pub float_to_bits-b : goal.float_to_bits-b
float_to_bits-b c = more _ _ c.if-x.true

pub normalised-requires : goal.normalised-requires
normalised-requires c =
    let b = to_bits binary64 c.args.x in
    let t = and_mask b 52 in
    let d = ((bits c.before).low c.if-field-eq0.true).0 in
    (omega arith, omega arith, omega arith)

pub overflow_add-fraction : goal.overflow_add-fraction
overflow_add-fraction c = omega (arith, and_mask (to_bits binary64 c.args.x) 52)

pub normalised-requires-else-field-eq0 : goal.normalised-requires-else-field-eq0
normalised-requires-else-field-eq0 c =
    let b = to_bits binary64 c.args.x in
    let t = and_mask b 52 in
    let d = (bits c.before).field in
    (omega arith, omega arith, omega arith)

-- what `normalised` leaves is left of the root of x
pub returns-then-field-eq0 : goal.returns-then-field-eq0
returns-then-field-eq0 c =
    let at-branch = c.before in
    let b = to_bits binary64 at-branch.args.x in
    subst (λ (y : Float). Leaves y c.normalised.result) (ap (λ (t : ℕ). root_units (t * 2 ^ 0)) (and_mask b 52) ∙ sym ((bits at-branch.before).low at-branch.if-field-eq0.true).1) c.normalised.ensures

pub returns-else-field-eq0 : goal.returns-else-field-eq0
returns-else-field-eq0 c =
    let at-branch = c.before in
    let b = to_bits binary64 at-branch.args.x in
    subst (λ (y : Float). Leaves y c.normalised-else-field-eq0.result) (ap (λ (t : ℕ). root_units ((t + 2 ^ 52) * 2 ^ (b / 2 ^ 52 - 1))) (and_mask b 52) ∙ sym ((bits at-branch.before).high at-branch.if-field-eq0.false)) c.normalised-else-field-eq0.ensures

pub returns-else-x-2 : goal.returns-else-x-2
unfolding of_bits div
returns-else-x-2 c = infinite _ c.if-x.true c.if-x-2.false

pub returns-then-x-3 : goal.returns-then-x-3
unfolding of_bits
returns-then-x-3 c = null _ c.if-x-3.true

pub returns-else-x-3 : goal.returns-else-x-3
unfolding of_bits div
returns-else-x-3 c = none _ c.if-x.false c.if-x-3.false
