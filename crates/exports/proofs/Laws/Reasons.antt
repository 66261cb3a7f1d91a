-- What the promise of specs/Calls/Reasons says of a report, and of two calls. Assumes nothing.
use Rattle.std.specs.Prelude.{Result, Ok, Err}
use Rattle.refusals.specs.declared.refusal.Refusal.{Refusal}
use Prim.Native.Nat.{ℕ, ◌*◌, ◌<◌}
use native.Mathlib.Omega.{arith}
use mathlib.Core.Bool.{Bool, true, false}
use mathlib.Core.Path.{◌≡◌, refl, sym, subst}
use lib.Dec.{lit≤}
use Rattle.why.specs.declared.Marks.{Marks}
use Rattle.exports.specs.Reasons as Reports
use Rattle.exports.specs.Determine.{why_determined}
use Rattle.exports.specs.Calls.Reasons.{WhyGiven, WhyLeft, WhyIs, bit, Digits, WhyShows, WhyAlike, why_defined}

-- ---- the reasons are binary digits

bit_below : (b : Bool) → bit b < 2
bit_below true = lit≤ tt
bit_below false = lit≤ tt

weighs : (b : Bool) (k : ℕ) → Reports.bit_if b k ≡ k * bit b
weighs true k = omega arith
weighs false k = omega arith

digits : (m : Marks) → Digits m (Reports.bits_of m)
digits m =
    let x = weighs m.x 1 in
    let y = weighs m.y 2 in
    let b = weighs m.before 4 in
    let a = weighs m.after 8 in
    let g = weighs m.angle 16 in
    let x' = bit_below m.x in
    let y' = bit_below m.y in
    let b' = bit_below m.before in
    let a' = bit_below m.after in
    let g' = bit_below m.angle in
    record { x = omega arith; y = omega arith; before = omega arith; after = omega arith; angle = omega arith }

pub why_shows : {g : WhyGiven} {l : WhyLeft} → WhyIs g l → WhyShows (why_defined g) l.report
why_shows {g} {l} p = rw (p.shown.is, p.shown.promise.answer) (by (why_defined g))
  where
    by : (o : Result Marks Refusal) → WhyShows o (Reports.report o)
    by (Err k) = (refl, refl)
    by (Ok m) = (refl, digits m)

-- ---- two calls

pub why_left_lem : {g g' : WhyGiven} {l l' : WhyLeft} → WhyIs g l → WhyIs g' l' → g ≡ g' → l ≡ l'
why_left_lem {g} {g'} {l} {l'} p q e =
    let same = why_determined p.shown (subst (λ (h : WhyGiven). WhyIs h l') (sym e) q).shown in
    λ i. record { report = same i }

pub why_equal : {g g' : WhyGiven} {l l' : WhyLeft} → WhyIs g l → WhyIs g' l' → WhyAlike g g' → l.report ≡ l'.report
why_equal p q a = why_determined p.shown (rw (← a.contour, ← a.segment) at q.shown)
