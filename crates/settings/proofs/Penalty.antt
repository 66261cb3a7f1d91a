-- A penalty from 1 to 256 sixteenths is exact as a float: one computed test of all of them. Assumes nothing.
use Prim.Native.Nat.{ℕ, zero, suc, ◌*◌, ◌<◌}
use mathlib.Core.Bool.{Bool, true, false, not, ◌&&◌}
use mathlib.Core.Path.{refl, sym, subst}
use native.Mathlib.Omega.{arith}
use borrow.Author.Count.{below_more}
use lib.Dec.{T, eqb, ltb, leb, eqb→eq}
use lib.IntN.{pos}
use lib.Ieee.{Float, nan, inf, fin, binary64, up, down, round, size, div, of_int, of_bits}
use lib.Ieee.Exact.{HasValue}
use lib.Ieee.Fits.{and_l, and_r}
use Rattle.float.specs.Numbers.{sixteen}
use Rattle.settings.specs.Settings.{penalty_of}
use Rattle.settings.specs.Statements.{PenaltyIsExact}

-- x is n sixteenths, as a test
is_sixteenths : ℕ → Float → Bool
is_sixteenths n nan = false
is_sixteenths n (inf s) = false
is_sixteenths n (fin s m e) = not s && eqb (m * up e * 16) (n * down e)

sixteenths : (n : ℕ) (x : Float) → T (is_sixteenths n x) → HasValue x false n 16
unfolding is_sixteenths
sixteenths n (fin false m e) h = (refl, eqb→eq (m * up e * 16) (n * down e) h)
sixteenths n nan h = elim h [ ]
sixteenths n (inf _) h = elim h [ ]
sixteenths n (fin true m e) h = elim h [ ]

abbrev quotient : ℕ → Float
quotient n = div binary64 (of_int binary64 (pos n)) sixteen

all_below : ℕ → Bool
all_below zero = true
all_below (suc k) = all_below k && is_sixteenths k (quotient k)

all_exact : T (all_below 257)
unfolding all_below is_sixteenths of_int of_bits div round size
all_exact = tt

each_of : (k : ℕ) → T (all_below k) → (n : ℕ) → n < k → T (is_sixteenths n (quotient n))
unfolding all_below
each_of zero h n less = absurd (omega arith)
each_of (suc k) h n less =
    let here = is_sixteenths k (quotient k) in
    below_more (λ (j : ℕ). T (is_sixteenths j (quotient j))) k (each_of k (and_l (all_below k) here h)) (and_r (all_below k) here h) n (omega arith)

pub penalty_exact : PenaltyIsExact
unfolding penalty_of
penalty_exact s fine =
    let n = s.penalty in
    let upto : T (leb n 256) = and_r (ltb 0 n) (leb n 256) (subst T (sym fine) tt) in
    sixteenths n (quotient n) (each_of 257 all_exact n (below n upto))
  where
    below : (n : ℕ) → T (leb n 256) → n < 257
    below n h = omega (arith, lib.Dec.leb→le n 256 h)
