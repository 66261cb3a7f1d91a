-- The length of a run of a contour in 16 bits is no NaN and not negative: derivatives are finite, since the coordinates are bounded, and what is made of
-- sums of squares, of their roots and of sums of these is +inf or a number that is not negative. Assumes nothing.
use Prim.Native.Nat.{ℕ, zero, suc, ◌+◌, ◌*◌, ◌^◌, ◌≤◌, ◌<◌}
use mathlib.Core.Bool.{Bool, true, false, cond}
use mathlib.Core.List.{List}
use mathlib.Core.Path.{◌≡◌, refl, sym, subst}
use native.Mathlib.Decide.{dec_lt}
use native.Mathlib.Omega.{arith}
use borrow.Author.Tests.{ne_eqb}
use lib.Dec.{ltb, lit≤}
use lib.IntN.{ℤ, pos, negsuc}
use lib.Signed.{mag}
use lib.ListN.{length, get_or, get_or-eq_default}
use lib.Ieee.{Float, inf, fin, binary64, up, down, odd, units, round, sum, add, mul, div, of_int, of_bits}
use lib.Ieee.Fits.{round_is}
use Rattle.float.specs.Float.{root_of, root_units}
use Rattle.float.specs.Numbers.{nought, half, two, six}
use Rattle.geometry.specs.Geometry.{along_of, squares}
use Rattle.geometry.specs.declared.Quad.{Quad}
use Rattle.arclen.specs.Rk4.{half_of, moved, grown_by, grown_all, rk4}
use Rattle.arclen.specs.Arclen.{hundredth, doubled, arclen_functor_of, deriv_of, speed_of, rk4_one}
use Rattle.arclen.specs.declared.ArclenFunctor.{ArclenFunctor}
use Rattle.outline.specs.Segments.{coordinate, on_at, next_of, seg_if, seg_from, end_of}
use Rattle.samples.specs.Samples.{quad_of, quads_from, length_from, length_after, length_all}
use Rattle.survey.specs.Never.{Sixteen}
use Rattle.survey.proofs.Bounded.{Within, within, wider, round_within, add_within, sub_within, mul_within}

-- +inf, or a number that is not negative
pub data Size : Float → Type 0 where
  endless : Size (inf false)
  number : (m : ℕ) (e : ℤ) → Size (fin false m e)

-- ---- the operations

either : (b : Bool) {x y : Float} → Size x → Size y → Size (cond b x y)
either true p q = p
either false p q = q

odd_size : (d q k l : ℕ) → Size (odd d false q k l)
unfolding odd
odd_size d zero k l = number _ _
odd_size d (suc q) k l = number _ _

units_size : (q k : ℕ) → Size (units binary64 false q k)
unfolding units
units_size q k = either (ltb (q * 2 ^ k) (2 ^ 2098)) (odd_size 54 q k 1074) endless

round_size : (a c : ℕ) → Size (round binary64 false a c)
round_size a c = rw (round_is binary64 false a c) (units_size _ _)

add_size : {x y : Float} → Size x → Size y → Size (add binary64 x y)
unfolding add sum
add_size endless endless = endless
add_size endless (number n d) = endless
add_size (number m e) endless = endless
add_size (number m e) (number n d) = round_size (m * up e * down d + n * up d * down e) (down e * down d)

-- by a number that is not zero
mul_size : (m : ℕ) (e : ℤ) {y : Float} → Size y → Size (mul binary64 (fin false (suc m) e) y)
unfolding mul
mul_size m e endless = rw (ne_eqb (suc m) 0 (λ q. omega arith)) endless
mul_size m e (number n d) = round_size (suc m * up e * (n * up d)) (down e * down d)

root_size : {x : Float} → Size x → Size (root_of x)
unfolding root_of root_units
root_size endless = endless
root_size (number zero e) = number _ _
root_size (number (suc m) e) = odd_size _ _ _ _

square_size : {a : ℕ} {x : Float} → Within a x → Size (mul binary64 x x)
unfolding mul
square_size (within true m e h) = round_size (m * up e * (m * up e)) (down e * down e)
square_size (within false m e h) = round_size (m * up e * (m * up e)) (down e * down e)

squares_size : {a b : ℕ} {x y : Float} → Within a x → Within b y → Size (squares x y)
squares_size h k = add_size (square_size h) (square_size k)

-- ---- the numbers of RK4 with a step of a hundredth

-- as bits: (1 / 100) / 6
sixth : div binary64 hundredth six ≡ of_bits binary64 0x3f5b_4e81_b4e8_1b4f
unfolding div of_bits
sixth = refl

step_within : Within 1 hundredth
unfolding div of_bits
step_within = within _ _ _ (lit≤ tt)

half_within : Within 1 half
unfolding of_bits
half_within = within _ _ _ (lit≤ tt)

two_within : Within 2 two
unfolding of_bits
two_within = within _ _ _ (lit≤ tt)

nought_within : Within 0 nought
unfolding of_bits
nought_within = within _ _ _ (lit≤ tt)

half_step_within : Within 1 (half_of hundredth)
half_step_within = mul_within step_within half_within (lit≤ tt)

twice_size : {y : Float} → Size y → Size (mul binary64 two y)
unfolding of_bits
twice_size h = mul_size _ _ h

sixth_size : {y : Float} → Size y → Size (mul binary64 (div binary64 hundredth six) y)
sixth_size {y} h = subst (λ (k : Float). Size (mul binary64 k y)) (sym sixth) (unfold of_bits in mul_size _ _ h)

grown_size : {y a b c d : Float} → Size y → Size a → Size b → Size c → Size d → Size (grown_by hundredth y a b c d)
grown_size y a b c d = add_size y (sixth_size (add_size (add_size a d) (twice_size (add_size c b))))

-- ---- the speed

-- a quad's derivative at both ends: four numbers of at most 2 ^ 19
record Steady (f : ArclenFunctor) : Type 0 where
  x0 : Within (2 ^ 19) f.dx0
  y0 : Within (2 ^ 19) f.dy0
  x1 : Within (2 ^ 19) f.dx1
  y1 : Within (2 ^ 19) f.dy1

-- between them, at a time of at most 128
along_within : {a b t : Float} → Within (2 ^ 19) a → Within (2 ^ 19) b → Within 128 t → Within (2 ^ 28) (along_of a b t)
along_within a b t = wider (2 ^ 28) (lit≤ tt) (add_within a (mul_within t (sub_within b a (lit≤ tt)) (lit≤ tt)) (lit≤ tt))

speed_size : (f : ArclenFunctor) (t : Float) → Steady f → Within 128 t → Size (speed_of f t)
unfolding speed_of deriv_of
speed_size f t s h = root_size (squares_size (along_within s.x0 s.x1 h) (along_within s.y0 s.y1 h))

-- ---- the length

later : {n : ℕ} {t d : Float} → n < 101 → Within n t → Within 1 d → Within 128 (add binary64 t d)
later {n} h t d = wider 128 (omega arith) (add_within t d (omega arith))

step_size : (f : ArclenFunctor) (n : ℕ) (t y : Float) → Steady f → n < 101 → Within n t → Size y → Size (rk4_one f hundredth t y)
unfolding rk4_one rk4 moved grown_all
step_size f n t y s h w z =
    let middle = speed_size f (add binary64 t (half_of hundredth)) s (later h w half_step_within) in
    grown_size z (speed_size f t s (wider 128 (omega arith) w)) middle middle (speed_size f (add binary64 t hundredth) s (later h w step_within))

from_size : (k n : ℕ) (f : ArclenFunctor) (t y : Float) → Steady f → n + k ≤ 100 → Within n t → Size y → Size (length_from k f t y)
unfolding length_from
from_size zero n f t y s h w z = z
from_size (suc k) n f t y s h w z =
    from_size k (n + 1) f (add binary64 t hundredth) (rk4_one f hundredth t y) s (omega arith) (add_within w step_within (omega arith)) (step_size f n t y s (omega arith) w z)

-- ---- the quads of a run

-- six coordinates of at most 2 ^ 17
record Held (q : Quad) : Type 0 where
  x0 : Within (2 ^ 17) q.p0.x
  y0 : Within (2 ^ 17) q.p0.y
  x1 : Within (2 ^ 17) q.p1.x
  y1 : Within (2 ^ 17) q.p1.y
  x2 : Within (2 ^ 17) q.p2.x
  y2 : Within (2 ^ 17) q.p2.y

doubled_within : {a b : Float} → Within (2 ^ 17) a → Within (2 ^ 17) b → Within (2 ^ 19) (doubled a b)
doubled_within a b = mul_within two_within (sub_within b a (lit≤ tt)) (lit≤ tt)

steady : (q : Quad) → Held q → Steady (arclen_functor_of q)
unfolding arclen_functor_of
steady q h = record {
  x0 = doubled_within h.x0 h.x1;
  y0 = doubled_within h.y0 h.y1;
  x1 = doubled_within h.x1 h.x2;
  y1 = doubled_within h.y1 h.y2;
}

int_within : (z : ℤ) → mag z < 2 ^ 15 → Within (2 ^ 15) (of_int binary64 z)
unfolding of_int
int_within (pos n) h = round_within false n 1 (2 ^ 15) (lit≤ tt) (lit≤ tt) (omega arith)
int_within (negsuc n) h = round_within true (suc n) 1 (2 ^ 15) (lit≤ tt) (lit≤ tt) (omega arith)

coordinate_within : (row : List ℤ) (i : ℕ) → Sixteen row → Within (2 ^ 15) (coordinate row i)
coordinate_within row i s = by (dec_lt i (length row))
  where
    by : Dec (i < length row) → Within (2 ^ 15) (coordinate row i)
    by (yes h) = int_within (get_or row i (pos 0)) (s i h)
    by (no h) = rw (get_or-eq_default row (pos 0) {n = i} (omega arith)) (int_within (pos 0) (lit≤ tt))

-- a line's control
middle_within : {a b : Float} → Within (2 ^ 15) a → Within (2 ^ 15) b → Within (2 ^ 17) (along_of a b half)
middle_within a b = wider (2 ^ 17) (lit≤ tt) (add_within a (mul_within half_within (sub_within b a (lit≤ tt)) (lit≤ tt)) (lit≤ tt))

module _ (xs ys : List ℤ) (sx : Sixteen xs) (sy : Sixteen ys) where
  here : (row : List ℤ) → Sixteen row → (i : ℕ) → Within (2 ^ 17) (coordinate row i)
  here row s i = wider (2 ^ 17) (lit≤ tt) (coordinate_within row i s)

  seg_held : (line : Bool) (a b c : ℕ) → Held (quad_of (seg_if xs ys line a b c))
  seg_held true a b c = record {
    x0 = here xs sx a;
    y0 = here ys sy a;
    x1 = middle_within (coordinate_within xs a sx) (coordinate_within xs b sx);
    y1 = middle_within (coordinate_within ys a sy) (coordinate_within ys b sy);
    x2 = here xs sx b;
    y2 = here ys sy b;
  }
  seg_held false a b c =
      record { x0 = here xs sx a; y0 = here ys sy a; x1 = here xs sx b; y1 = here ys sy b; x2 = here xs sx c; y2 = here ys sy c }

  quad_held : (fs : List ℕ) (a : ℕ) → Held (quad_of (seg_from xs ys fs a))
  unfolding seg_from
  quad_held fs a = seg_held (on_at fs (next_of a (length fs))) a _ _

  -- the length after the segment from place a on
  pub after_size : (fs : List ℕ) (a : ℕ) (y : Float) → Size y → Size (length_after (quad_of (seg_from xs ys fs a)) y)
  after_size fs a y z =
      let q = quad_of (seg_from xs ys fs a) in
      from_size 100 0 (arclen_functor_of q) nought y (steady q (quad_held fs a)) (lit≤ tt) nought_within z

  all_size : (fs : List ℕ) (a n : ℕ) (y : Float) → Size y → Size (length_all (quads_from xs ys fs a n) y)
  unfolding quads_from length_all
  all_size fs a zero y z = z
  all_size fs a (suc n) y z =
      all_size fs (end_of fs a) n _ (after_size fs a y z)

  -- the length of n segments from place a on
  pub length_size : (fs : List ℕ) (a n : ℕ) → Size (length_all (quads_from xs ys fs a n) nought)
  length_size fs a n = all_size fs a n nought (unfold of_bits in number _ _)
