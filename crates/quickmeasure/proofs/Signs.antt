-- The measure is not negative: neither is a speed, a term, nor a sum of terms. Assumes nothing.
use Prim.Native.Nat.{ℕ, zero, suc, ◌+◌, ◌*◌, ◌%◌, ◌^◌, ◌<◌}
use mathlib.Core.Bool.{Bool, true, false, not, cond}
use mathlib.Core.Path.{◌≡◌, refl}
use mathlib.Core.List.{List}
use native.Mathlib.Omega.{arith}
use lib.Dec.{T, ltb}
use lib.ListN.{get_or}
use lib.Ieee.{Float, nan, inf, fin, Format, binary64, prec, emax, low, odd, units, round, add, mul, div, of_bits}
use lib.Ieee.Fits.{round_is}
use Rattle.float.specs.Numbers.{two, six}
use Rattle.float.proofs.NotNegative.{NotNegative, no_number, endless, number, add_plus, mul_plus, div_plus, root_plus, square_plus, squares_plus}
use Rattle.geometry.specs.declared.Point.{Point}
use Rattle.geometry.specs.declared.Quad.{Quad}
use Rattle.arclen.specs.Rk4.{grown_by}
use Rattle.arclen.specs.Arclen.{tenth, speed_of}
use Rattle.quickarclen.specs.Stages.{stage_of, stage_at, Written}
use Rattle.arclen.specs.declared.ArclenFunctor.{ArclenFunctor}
use Rattle.measure.specs.Measure.{error_of}
use Rattle.quickmeasure.specs.Terms.{term_in, sums_of}
use Rattle.measure.specs.NotNegative.{not_negative}

-- `not_negative` by its cases
pub plus_is : {x : Float} → NotNegative x → T (not_negative x)
plus_is no_number = tt
plus_is endless = tt
plus_is (number m e) = tt

pub plus_by : (x : Float) → T (not_negative x) → NotNegative x
plus_by nan h = no_number
plus_by (inf false) h = endless
plus_by (inf true) h = absurd h
plus_by (fin false m e) h = number m e
plus_by (fin true m e) h = absurd h

-- ---- a rounded fraction has the sign that it is given

odd_plus : (d : ℕ) (s : Bool) (q k l : ℕ) → not_negative (odd d s q k l) ≡ not s
unfolding odd
odd_plus d s zero k l = refl
odd_plus d s (suc q) k l = refl

units_plus : (f : Format) (s : Bool) (q k : ℕ) → not_negative (units f s q k) ≡ not s
unfolding units
units_plus f s q k = go (ltb (q * 2 ^ k) (2 ^ (low f + suc (emax f))))
  where
    go : (t : Bool) → not_negative (cond t (odd (suc (prec f)) s q k (low f)) (inf s)) ≡ not s
    go true = odd_plus (suc (prec f)) s q k (low f)
    go false = refl

pub round_plus : (f : Format) (s : Bool) (a c : ℕ) → not_negative (round f s a c) ≡ not s
round_plus f s a c = rw round_is (units_plus f s _ _)

-- ---- the measure

pub speed_plus : (f : ArclenFunctor) (t : Float) → NotNegative (speed_of f t)
unfolding speed_of
speed_plus f t = root_plus (squares_plus _ _)

error_plus : (v : Float) (d p xy dir : Point) → NotNegative v → NotNegative (error_of v d p xy dir)
unfolding error_of of_bits
error_plus v d p xy dir h = add_plus (mul_plus (number _ _) (mul_plus (squares_plus _ _) h)) (mul_plus (number _ _) (div_plus (square_plus _) h))

stage_plus : (f : ArclenFunctor) (h t y : Float) (j : ℕ) → NotNegative (get_or (stage_of f h t y j) 1 nan)
unfolding stage_of
stage_plus f h t y zero = speed_plus _ _
stage_plus f h t y (suc zero) = speed_plus _ _
stage_plus f h t y (suc (suc zero)) = speed_plus _ _
stage_plus f h t y (suc (suc (suc j))) = speed_plus _ _

-- the term k of the 40
pub term_plus : (f : ArclenFunctor) (q : Quad) (stages seen : List (List Float)) → Written f stages → (k : ℕ) → k < 40 → NotNegative (term_in f q stages seen k)
unfolding stage_at
term_plus f q stages seen w k less = error_plus _ _ _ _ _ (rw (w.is k less) (stage_plus f tenth _ _ (k % 4)))

-- what a step adds
pub weight_plus : {a b c d : Float} → NotNegative a → NotNegative b → NotNegative c → NotNegative d →
    NotNegative (mul binary64 (div binary64 tenth six) (add binary64 (add binary64 a d) (mul binary64 two (add binary64 c b))))
unfolding of_bits
weight_plus a b c d = mul_plus (div_plus (div_plus (number _ _) (number _ _)) (number _ _)) (add_plus (add_plus a d) (mul_plus (number _ _) (add_plus c b)))

pub grown_plus : {y a b c d : Float} → NotNegative y → NotNegative a → NotNegative b → NotNegative c → NotNegative d → NotNegative (grown_by tenth y a b c d)
grown_plus y a b c d = add_plus y (weight_plus a b c d)

-- the sum over i steps
pub sums_plus : (g : ℕ → Float) (i : ℕ) → ((k : ℕ) → k < 4 * i → NotNegative (g k)) → NotNegative (sums_of g i)
unfolding sums_of of_bits
sums_plus g zero all = number _ _
sums_plus g (suc i) all =
    grown_plus (sums_plus g i (λ k less. all k (omega arith))) (all (4 * i) (omega arith)) (all (4 * i + 1) (omega arith)) (all (4 * i + 2) (omega arith)) (all (4 * i + 3) (omega arith))
