-- Where the speed of a quad changes evenly, no stage of RK4 is more than 1.12 times its length ahead, but for what rounding adds. Speeds are compared by
-- their squares. Assumes nothing.
use Prim.Native.Nat.{ℕ, ◌+◌, ◌*◌, ◌≤◌, ◌<◌}
use mathlib.Core.Path.{◌≡◌, refl, ap, ◌∙◌}
use mathlib.Core.List.{List}
use native.Mathlib.Nat.{add-mul, mul_assoc, mul_right_comm, mul-le-mul_right, lt_of_mul-lt-mul_right}
use native.Mathlib.Omega.{arith}
use borrow.Author.Count.{below_more}
use lib.Dec.{T, lit≤}
use lib.Pow.{pow_pos}
use lib.IntN.{pos, negsuc}
use lib.Ieee.{Float, binary64, fits, add, of_bits}
use lib.Ieee.Fits.{add-fits}
use Rattle.float.specs.Numbers.{four}
use Rattle.float.specs.Float.{root_of}
use Rattle.float.proofs.NotNegative.{NotNegative, add_plus, mul_plus, squares_plus, less_finite}
use Rattle.float.proofs.Nearly.{
  Near,
  grain,
  grain_some,
  top,
  room,
  Ratio,
  ratio,
  ratio_plus,
  same_size,
  less_true,
  Sized,
  size_of,
  sum_of,
  times,
  add_parts,
  mul_parts,
}
use Rattle.float.proofs.Roots.{root_le, squared, sum_squared, root_of_lem}
use Rattle.geometry.specs.declared.Quad.{Quad}
use Rattle.arclen.specs.Rk4.{half_of}
use Rattle.arclen.specs.Arclen.{tenth, arclen_functor_of, speed_of}
use Rattle.quickarclen.specs.Stages.{time_at}
use Rattle.arclen.specs.declared.ArclenFunctor.{ArclenFunctor}
use Rattle.quickmeasure.specs.Early.{Shows}
use Rattle.quickmeasure.specs.Ahead.{nearly_two, most_square, square_at, WellBefore, EvenStep, Even}
use Rattle.quickmeasure.proofs.Ahead.{least_is, speck_some, Fast, Least, NoLonger, Share, own_share, within, Shares, Factor, seen_by}

-- ---- one step more
pub one_more : {f : ArclenFunctor} {i : ℕ} {t a b d : Float} → Even f i → t ≡ time_at tenth i → a ≡ square_at f t →
    b ≡ square_at f (add binary64 t (half_of tenth)) → d ≡ square_at f (add binary64 t tenth) → EvenStep a b d → Even f (i + 1)
one_more e time ea eb ed s = record { is = below_more _ _ e.is (rw (← time, ← ea, ← eb, ← ed) s) }

-- ---- the squares of the speeds of a step
four_is : Ratio four 4 1
unfolding of_bits
four_is = ratio 1 (pos 2) (pow_pos 0) refl

nearly_is : Ratio nearly_two 31 16
unfolding of_bits
nearly_is = ratio 31 (negsuc 3) (pow_pos 4) refl

most_is : Ratio most_square 1152921504606846976 1
unfolding of_bits
most_is = ratio 1 (pos 60) (pow_pos 0) refl

record Squares (A B D : Float) : Type 0 where
  a : Sized A
  b : Sized B
  d : Sized D
  first : a.size * 1000 ≤ 4002 * b.size
  middle : 1936 * b.size ≤ 1000 * (a.size + d.size)

-- p is four b, q nearly two b, and s the sum of a and d, all rounded
first_by : (a b p : ℕ) → 1000000 ≤ b → Near (4 * b) 1 p → a < p → a * 1000 ≤ 4002 * b
first_by a b p many near less = omega (arith, near.most)

middle_by : (a b d q s : ℕ) → 1000000 ≤ b → Near (31 * b) 16 q → Near (a + d) 1 s → q < s → 1936 * b ≤ 1000 * (a + d)
middle_by a b d q s many near ends less = omega (arith, near.least, ends.most)

four_under : (b p q s u t : ℕ) → 1000000 ≤ b → Near (4 * b) 1 p → Near (31 * b) 16 q → q < s → s < 1152921504606846976 * u →
    18446744073709551616 * u ≤ t → p < t
four_under b p q s u t many near middle less most room =
    let b-most : b ≤ 1152921504606846976 * u = omega (arith, middle.least) in
    omega (arith, near.most)

squares_of : {A B D : Float} → NotNegative A → NotNegative B → NotNegative D → T (fits binary64 A) → T (fits binary64 B) → T (fits binary64 D) →
    EvenStep A B D → Squares A B D
squares_of pA pB pD fA fB fD e =
    let ends = less_finite _ (add_plus pA pD) e.most in
    let parts = add_parts pA pD ends in
    let most = less_finite _ (mul_plus (ratio_plus nearly_is) pB) e.middle in
    let a = size_of pA fA parts.0 in
    let d = size_of pD fD parts.1 in
    let b = size_of pB fB (mul_parts (ratio_plus nearly_is) pB most).1 in
    let s = sum_of a.value d.value in
    let q = times nearly_is (pow_pos 4) b.value in
    let p = times four_is (pow_pos 0) b.value in
    let s-is = s.value (s.under ends) in
    let many : 1000000 ≤ b.size = omega (arith, grain_some, less_true least_is b.value e.least) in
    let less : q.size < s.size = lt_of_mul-lt-mul_right grain (less_true (q.value (q.under most)) s-is e.middle) in
    let short : s.size < 1152921504606846976 * grain = omega (arith, less_true s-is most_is e.most) in
    let under : p.size < top = four_under b.size p.size q.size s.size grain top many p.near q.near less short room in
    record {
      a = a;
      b = b;
      d = d;
      first = first_by a.size b.size p.size many p.near (lt_of_mul-lt-mul_right grain (less_true a.value (p.value under) e.first));
      middle = middle_by a.size b.size d.size q.size s.size many q.near s.near less;
    }

-- ---- and the speeds themselves: x, y and z are nearly the roots of a, b and d
first_root : (a b u x y : ℕ) → a * 1000 ≤ 4002 * b → x * x * 100000 ≤ 100001 * (a * u) → b * u * 100000 ≤ 100001 * (y * y) → 100 * x ≤ 201 * y
first_root a b u x y first ax by =
    let scaled : a * 1000 * u ≤ 4002 * b * u = mul-le-mul_right u first in
    let l : a * 1000 * u ≡ a * u * 1000 = mul_right_comm a 1000 u in
    let r : 4002 * b * u ≡ 4002 * (b * u) = mul_assoc 4002 b u in
    root_le (100 * x) (201 * y) (omega (arith, squared 100 x, squared 201 y))

middle_root : (a b d u x y z : ℕ) → 1936 * b ≤ 1000 * (a + d) → a * u * 100000 ≤ 100001 * (x * x) → y * y * 100000 ≤ 100001 * (b * u) →
    d * u * 100000 ≤ 100001 * (z * z) → 139 * y ≤ 100 * (x + z)
middle_root a b d u x y z middle ax by dz =
    let scaled : 1936 * b * u ≤ 1000 * (a + d) * u = mul-le-mul_right u middle in
    let l : 1936 * b * u ≡ 1936 * (b * u) = mul_assoc 1936 b u in
    let r : 1000 * (a + d) * u ≡ 1000 * (a * u + d * u) = mul_assoc 1000 (a + d) u ∙ ap (λ (k : ℕ). 1000 * k) (add-mul a d u) in
    root_le (139 * y) (100 * (x + z)) (omega (arith, squared 139 y, squared 100 (x + z), sum_squared x z))

-- ---- how far they lead
even_share : (y a b d v l : ℕ) → 100 * a ≤ 201 * b → 139 * b ≤ 100 * (a + d) → Least a b d v → NoLonger (y + v) l → Share 1220 y a b l
even_share y a b d v l first middle h whole = record {
  first = own_share 1220 y v (501 * a) l (omega arith) whole (omega (arith, speck_some));
  middle = own_share 1220 y v (1002 * b) l (omega arith) whole (omega (arith, speck_some));
}

step_share : {A B D : Float} → Squares A B D → (a : Fast (root_of A)) (b : Fast (root_of B)) (d : Fast (root_of D)) (y v l : ℕ) →
    Least a.size b.size d.size v → NoLonger (y + v) l → Share 1220 y a.size b.size l
step_share s a b d y v l h whole =
    let x = root_of_lem s.a.value in
    let r = root_of_lem s.b.value in
    let z = root_of_lem s.d.value in
    let xa = same_size x.value a.value in
    let yb = same_size r.value b.value in
    let zd = same_size z.value d.value in
    let n = s.a.size in
    let m = s.b.size in
    let k = s.d.size in
    even_share y a.size b.size d.size v l
    (rw (← xa, ← yb) (first_root n m grain x.size r.size s.first x.most r.least))
    (rw (← xa, ← yb, ← zd) (middle_root n m k grain x.size r.size z.size s.middle x.least r.most z.least)) h whole

even_shares : (f : ArclenFunctor) → Even f 10 → Shares f 1220
unfolding speed_of
even_shares f even =
    record {
      few = omega arith;
      each =
          λ l all i less. let p = all i less in
          step_share
          (squares_of (squares_plus _ _) (squares_plus _ _) (squares_plus _ _) (add-fits binary64 _ _) (add-fits binary64 _ _) (add-fits binary64 _ _)
          (even.is i less)) p.step.a p.step.b p.step.d p.from p.step.v l p.step.least (within f p);
    }

-- a gap and an eighth
abbrev eighth : Float
eighth = of_bits binary64 0x3ff2_0000_0000_0000

eighth_is : Factor 1220 eighth
unfolding of_bits
eighth_is = record { num = 9; den = 8; some = pow_pos 3; value = ratio 9 (negsuc 2) (pow_pos 3) refl; over = lit≤ tt }

pub seen_even : (row : List (List Float)) (s0 s1 : Float) (q : Quad) → WellBefore row s0 s1 eighth → Even (arclen_functor_of q) 10 → Shows row s0 s1 q
seen_even row s0 s1 q w even = seen_by w eighth_is q (even_shares (arclen_functor_of q) even)
