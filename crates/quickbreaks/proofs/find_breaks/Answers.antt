use Prim.Native.Nat.{ℕ, ◌-◌, ◌^◌, ◌≤◌}
use native.Mathlib.Omega.{arith}
use mathlib.Core.Path.{refl, ◌∙◌}
use lib.Dec.{T, le→leb}
use lib.IntN.{pos}
use lib.Ieee.{binary64, in_float}
use Rattle.std.proofs.lemmas.Result.{err_from_is_err_and}
use Rattle.float.specs.Float.{root_of}
use Rattle.breaks.proofs.Laws.{capped, seek, seeks, seeks_no_more, sought}
use Rattle.quickbreaks.specs.Squares.{root_none}
use Rattle.quickbreaks.proofs.find_breaks.Goals as goal

-- the last place fits an f64
exact : (n : ℕ) → n ≤ 2 ^ 53 → T (in_float binary64 (pos n))
unfolding in_float
exact n h = le→leb n (2 ^ 53) h

pub loop-i-init : goal.loop-i-init
loop-i-init c = seek _ _ _ _ _ _ _ c.places-n.ensures refl root_none

pub int_to_float-i : goal.int_to_float-i
int_to_float-i c =
    let few : c.places-n.result ≤ 2 ^ 31 - 1 = rw c.places-n.ensures (capped _) in
    exact _ (omega arith)

pub int_to_float-n : goal.int_to_float-n
int_to_float-n c =
    let few : c.places-n.result ≤ 2 ^ 31 - 1 = rw c.places-n.ensures (capped _) in
    exact _ (omega arith)

pub returns-in_err-next-clause-row : goal.returns-in_err-next-clause-row
returns-in_err-next-clause-row c =
    let p = err_from_is_err_and c.from_residual.result c.from_residual.ensures.1 in
    rw (p.1, p.2) (seeks_no_more c.loop-i.invariant c.loop-i-test.true c.place.ensures (rw c.in_err-next.was refl))

pub returns-in_err-p-clause-row : goal.returns-in_err-p-clause-row
returns-in_err-p-clause-row c =
    let p = err_from_is_err_and c.from_residual-in_err-p.result c.from_residual-in_err-p.ensures.1 in
    rw (p.1, p.2) (seeks_no_more c.loop-i.invariant c.loop-i-test.true c.place.ensures (rw c.in_ok-next.was (c.join.ensures.row ∙ rw c.in_err-p.was refl)))

pub loop-i-preserved : goal.loop-i-preserved
loop-i-preserved c =
    seeks c.loop-i.invariant c.loop-i-test.true c.place.ensures
    (rw c.in_ok-next.was (c.join.ensures.row ∙ rw c.in_ok-p.was refl))
    c.join.auto.row
    (rw c.in_ok-p.was at c.join.ensures.count)

-- after the last place
pub returns-in_ok-p-clause-row : goal.returns-in_ok-p-clause-row
returns-in_ok-p-clause-row c =
    sought {dist = root_of c.in_ok-p.p.opened} (seeks c.loop-i.invariant c.loop-i-test.true c.place.ensures
    (rw c.in_ok-next.was (c.join.ensures.row ∙ rw c.in_ok-p.was refl))
    c.join.auto.row
    (rw c.in_ok-p.was at c.join.ensures.count)) (omega arith)

pub returns : goal.returns
returns c = record { row = sought c.loop-i.invariant c.loop-i-test.false; count = c.loop-i.invariant.inside }
