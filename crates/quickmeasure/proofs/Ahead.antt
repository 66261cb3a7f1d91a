-- How far the stages of RK4 are ahead of a quad's length: from what is known of the speeds in its ten steps to every sample that is asked for. Assumes nothing.
use Prim.Native.Nat.{ℕ, zero, suc, ◌+◌, ◌-◌, ◌*◌, ◌/◌, ◌%◌, ◌^◌, ◌≤◌, ◌<◌, zero-le}
use mathlib.Core.Bool.{Bool, true, false, ◌&&◌, cond, false≢true}
use mathlib.Core.Logic.{◌⊎◌, inl, inr}
use mathlib.Core.Path.{◌≡◌, refl, sym, ap, ◌∙◌, subst}
use native.Mathlib.Nat.{
  zero-add,
  zero-lt-suc,
  pow-suc,
  mul_assoc,
  mul_comm,
  mul_left_comm,
  mul-pos,
  mul-le-mul_left,
  mul-le-mul_right,
  mul-add,
  add-mul,
  lt_of_le_of_lt,
  le_of_mul-le-mul_right,
  le_of_eq,
  mul-le-mul,
  mul_right_comm,
  mul-lt-mul_of_pos_right,
  le_trans,
  div-lt_iff_lt-mul,
}
use native.Mathlib.Omega.{arith}
use mathlib.Core.List.{List, [], ◌∷◌}
use lib.ListN.{length, get_or}
use borrow.Author.Tests.{ltb-false, le-ltb}
use lib.Dec.{T, leb, ltb, eqb, eqb→eq, ltb→lt, lit<, lit≤}
use lib.Pow.{pow_pos, pow_mono}
use lib.IntN.{ℤ, pos, negsuc}
use lib.Ieee.{Float, nan, inf, fin, binary64, up, down, size, fits, round, sum, add, sub, mul, div, lt, le, to_unsigned, of_bits}
use lib.Ieee.Bits.{of_bits-fits}
use lib.Ieee.Digits.{size-le}
use lib.Ieee.Exact.{odd_sign}
use lib.Ieee.Fits.{up_pos, down_pos, and_l, and_r, add-fits, sub-fits}
use lib.Ieee.Order.{round_mono}
use lib.Ieee.Scale.{finite}
use Rattle.float.specs.Float.{tiny, close_to, root_down, root_near, root_units, root_of}
use Rattle.float.specs.Numbers.{nought, two, six}
use Rattle.float.proofs.Zeros.{is_zero, IsBlank, blank, blank_nan, minus_zero, plus_zero, plus_nan, times_nan, any_times_zero}
use Rattle.float.proofs.NotNegative.{NotNegative, no_number, endless, number, either, add_plus, mul_plus, div_plus, squares_plus}
use Rattle.float.proofs.Nearly.{
  Near,
  grain,
  grain_pos,
  grain_some,
  top,
  Ratio,
  ratio,
  ratio_of,
  ratio_plus,
  ratio_finite,
  same_size,
  level_ratio,
  less_true,
  less_false,
  Sized,
  sized,
  mul_is,
  sum_of,
  times,
  AtMost,
  times_most,
  fewer_most,
  fewer_least,
  quotient_of,
  add_parts,
  mul_parts,
}
use Rattle.arclen.specs.Rk4.{half_of, grown_by}
use Rattle.arclen.specs.Arclen.{tenth, arclen_functor_of, speed_of}
use Rattle.quickarclen.specs.Stages.{time_at, length_at, stage_of, stage_at, Written}
use Rattle.arclen.specs.declared.ArclenFunctor.{ArclenFunctor}
use Rattle.arclen.proofs.Laws.{is_longer}
use Rattle.quickarclen.proofs.Laws.{length_whole}
use Rattle.geometry.specs.declared.Quad.{Quad}
use Rattle.measure.specs.Measure.{along_samples, stretch_of, measure_functor_of}
use Rattle.quickmeasure.specs.Early.{Shows}
use Rattle.quickmeasure.specs.Ahead.{least_gap, most_gap, WellBefore}
use Rattle.quickmeasure.proofs.Signs.{speed_plus, weight_plus, grown_plus}
use Rattle.quickmeasure.proofs.Climb.{adding, no_less}
use Rattle.quickmeasure.proofs.Sure.{place_inside, answered}

-- ---- a speed is a root, and the root of an f64 is 2 ^ 512 at most: so nothing below is past all f64s
unfoldable pub fastest : ℕ
fastest = 2 ^ 1586

-- x is a number of smallest f64s, and no more than a root can be
pub record Fast (x : Float) : Type 0 where
  pub size : ℕ
  pub value : Ratio x size grain
  pub most : size ≤ fastest

either_le : (b : Bool) (p q n : ℕ) → p ≤ n → q ≤ n → cond b p q ≤ n
either_le true p q n h k = h
either_le false p q n h k = k

down_le : (k n : ℕ) → root_down k n ≤ 2 ^ k - 1
unfolding root_down
down_le zero n = zero-le
down_le (suc k) n =
    let q = 2 * root_down k (n / 4) in
    let less = down_le k (n / 4) in
    let some = pow_pos k in
    let twice = pow-suc 2 k in
    either_le (leb ((q + 1) * (q + 1)) n) (q + 1) q (2 ^ suc k - 1) (omega arith) (omega arith)

near_le : (k n : ℕ) → root_near k n ≤ 2 ^ k
unfolding root_near
near_le k n =
    let q = root_down k n in
    let less = down_le k n in
    let some = pow_pos k in
    either_le (ltb q (n - q * q)) (q + 1) q (2 ^ k) (omega arith) (omega arith)

-- in smallest f64s a number above zero is less than 2 ^ 2098
under : (m : ℕ) (e : ℤ) → T (fits binary64 (fin false (suc m) e)) → suc m * up e * 2 ^ 1074 / down e < 2 ^ 2098
unfolding fits
under m e f =
    let others = eqb (suc m % 2) 1 && ltb (suc m) (2 ^ 53) && leb (down e) (2 ^ 1074) in
    let less : suc m * up e < 2 ^ 1024 * down e = ltb→lt _ _ (and_r others (ltb (suc m * up e) (2 ^ 1024 * down e)) f) in
    (div-lt_iff_lt-mul (down_pos e)).1
    (subst (λ (z : ℕ). suc m * up e * 2 ^ 1074 < z) (mul_right_comm (2 ^ 1024) (down e) (2 ^ 1074)) (mul-lt-mul_of_pos_right less (pow_pos 1074)))

units_fast : (n : ℕ) → n < 2 ^ 2098 → Fast (root_units n)
unfolding root_units grain fastest
units_fast n less =
    let h = (size n + 1) / 2 in
    let r = root_near 53 (n * 2 ^ 106 / 4 ^ h) in
    let small : size n ≤ 2098 = size-le n 2098 less in
    let low : h + 484 ≤ 1533 = omega arith in
    record {
      size = r * 2 ^ (h + 484);
      value = ratio_of _ (r * 2 ^ (h + 484)) (2 ^ 1074) (pow_pos 1074) (odd_sign 53 false r (h + 484) 1074);
      most = le_trans (mul-le-mul (near_le 53 _) (pow_mono low)) (lit≤ tt);
    }

root_fast : {x : Float} → NotNegative x → T (fits binary64 x) → T (finite (root_of x)) → Fast (root_of x)
unfolding root_of
root_fast no_number f h = absurd h
root_fast endless f h = absurd h
root_fast (number zero e) f h = record { size = 0; value = ratio {a = 0} {c = grain} 0 e grain_pos (omega arith); most = zero-le }
root_fast (number (suc m) e) f h = units_fast _ (under m e f)

speed_fast : (f : ArclenFunctor) (t : Float) → T (finite (speed_of f t)) → Fast (speed_of f t)
unfolding speed_of
speed_fast f t h = root_fast (squares_plus _ _) (add-fits binary64 _ _) h

-- ---- the constants of a step: a tenth, a half of it, a sixth of it, and two. A stage is a tenth or a half of it of a speed ahead
pub tenth_is : Ratio tenth 3602879701896397 36028797018963968
unfolding of_bits div round
tenth_is = ratio 3602879701896397 (negsuc 54) (pow_pos 55) refl

pub half_is : Ratio (half_of tenth) 3602879701896397 72057594037927936
unfolding of_bits div mul round
half_is = ratio 3602879701896397 (negsuc 55) (pow_pos 56) refl

pub sixth_is : Ratio (div binary64 tenth six) 4803839602528529 288230376151711744
unfolding of_bits div round
sixth_is = ratio 4803839602528529 (negsuc 57) (pow_pos 58) refl

pub two_is : Ratio two 2 1
unfolding of_bits
two_is = ratio 1 (pos 1) (pow_pos 0) refl

by_tenth : {x : Float} {v : ℕ} → Ratio x v grain → AtMost 1002 v (mul binary64 tenth x)
by_tenth h = times_most 1002 tenth_is (pow_pos 55) (lit≤ tt) h

by_half : {x : Float} {v : ℕ} → Ratio x v grain → AtMost 501 v (mul binary64 (half_of tenth) x)
by_half h = times_most 501 half_is (pow_pos 56) (lit≤ tt) h

-- v is a sixth of a tenth of A, of four B and of D at least
abbrev pub Least : ℕ → ℕ → ℕ → ℕ → Type 0
Least a b d v = 166 * (999 * a + 999 * d + 3996 * b) ≤ v * 10000000 + 20000000

-- ---- a step from the length Y to Z, with the speeds A, B and D at its start, middle and end: v is added
pub record Step (Y A B D Z : Float) (y : ℕ) : Type 0 where
  pub a : Fast A
  pub b : Fast B
  pub d : Fast D
  pub v : ℕ
  pub z : ℕ
  pub end : Ratio Z z grain
  pub added : v ≤ fastest
  pub least : Least a.size b.size d.size v
  pub sum : Near (y + v) 1 z

abbrev weight_of : Float → Float → Float → Float
weight_of A B D = add binary64 (add binary64 A D) (mul binary64 two (add binary64 B B))

fastest_some : 1000 ≤ fastest
unfolding fastest
fastest_some = lit≤ tt

-- the weight, by its parts: A + D, B + B, and twice that
weight_most : (a b d f p q r s : ℕ) → 1000 ≤ f → a ≤ f → b ≤ f → d ≤ f → Near (a + d) 1 p → Near (b + b) 1 q → Near (2 * q) 1 r → Near (p + r) 1 s → s ≤ 7 * f
weight_most a b d f p q r s some ha hb hd hp hq hr hs =
    let p-most : p * 10 ≤ 21 * f = omega (arith, hp.most) in
    let q-most : q * 10 ≤ 21 * f = omega (arith, hq.most) in
    let r-most : r * 10 ≤ 43 * f = omega (arith, hr.most) in
    omega (arith, hs.most)

weight_least : (a b d p q r s : ℕ) → Near (a + d) 1 p → Near (b + b) 1 q → Near (2 * q) 1 r → Near (p + r) 1 s →
    999 * a + 999 * d + 3996 * b ≤ s * 1000 + 5000
weight_least a b d p q r s hp hq hr hs = omega (arith, hp.least, hq.least, hr.least, hs.least)

record Weight (x : Float) (a b d : ℕ) : Type 0 where
  size : ℕ
  value : Ratio x size grain
  most : size ≤ 7 * fastest
  least : 999 * a + 999 * d + 3996 * b ≤ size * 1000 + 5000

weigh : {A B D : Float} (a : Fast A) (b : Fast B) (d : Fast D) → T (finite (weight_of A B D)) → T (finite (add binary64 A D)) →
    T (finite (mul binary64 two (add binary64 B B))) → T (finite (add binary64 B B)) → Weight (weight_of A B D) a.size b.size d.size
weigh a b d whole outer inner twice =
    let p = sum_of a.value d.value in
    let q = sum_of b.value b.value in
    let r = times two_is (pow_pos 0) (q.value (q.under twice)) in
    let s = sum_of (p.value (p.under outer)) (r.value (r.under inner)) in
    record {
      size = s.size;
      value = s.value (s.under whole);
      most =
          weight_most a.size b.size d.size fastest p.size q.size r.size s.size fastest_some a.most b.most d.most
          p.near q.near r.near s.near;
      least = weight_least a.size b.size d.size p.size q.size r.size s.size p.near q.near r.near s.near;
    }

-- from Y, with the weight S
add_weight : {Y A B D S : Float} {y : ℕ} (a : Fast A) (b : Fast B) (d : Fast D) → Ratio Y y grain → Weight S a.size b.size d.size →
    let X = mul binary64 (div binary64 tenth six) S in
    T (finite X) → T (finite (add binary64 Y X)) → Step Y A B D (add binary64 Y X) y
add_weight a b d Y w fin-added fin-sum =
    let v = times sixth_is (pow_pos 58) w.value in
    let z = sum_of Y (v.value (v.under fin-added)) in
    let most : v.size * 10000 ≤ 167 * w.size + 10000 = fewer_most v.size (2 ^ 58) 4803839602528529 w.size 167 (pow_pos 58) (lit≤ tt) v.near in
    let least : 166 * w.size ≤ v.size * 10000 + 10000 = fewer_least v.size (2 ^ 58) 4803839602528529 w.size 166 (pow_pos 58) (lit≤ tt) v.near in
    record {
      a = a;
      b = b;
      d = d;
      v = v.size;
      z = z.size;
      end = z.value (z.under fin-sum);
      added = omega (arith, fastest_some, w.most);
      least = omega (arith, w.least);
      sum = z.near;
    }

-- where the end is finite, so are all the parts of the step
grow : (f : ArclenFunctor) (first middle last : Float) {Y : Float} {y : ℕ} → Ratio Y y grain →
    let A = speed_of f first in
    let B = speed_of f middle in
    let D = speed_of f last in
    let Z = grown_by tenth Y A B B D in
    T (finite Z) → Step Y A B D Z y
grow f first middle last Y h =
    let pA = speed_plus f first in
    let pB = speed_plus f middle in
    let pD = speed_plus f last in
    let outer = add_plus pA pD in
    let inner = mul_plus (ratio_plus two_is) (add_plus pB pB) in
    let added = (add_parts (ratio_plus Y) (weight_plus pA pB pB pD) h).1 in
    let weight = (mul_parts (ratio_plus sixth_is) (add_plus outer inner) added).1 in
    let both = add_parts outer inner weight in
    let ends = add_parts pA pD both.0 in
    let twice = (mul_parts (ratio_plus two_is) (add_plus pB pB) both.1).1 in
    let a = speed_fast f first ends.0 in
    let b = speed_fast f middle (add_parts pB pB twice).0 in
    let d = speed_fast f last ends.1 in
    add_weight a b d Y (weigh a b d weight both.0 both.1 twice) added h

-- ---- what a speed may lack where its square is next to nothing: far below any length that is not close to 0. It is shut, being too long for arithmetic
unfoldable pub speck : ℕ
speck = 2 ^ 600

pub speck_some : 1000000 ≤ speck
unfolding speck
speck_some = lit≤ tt

pub speck_square : 10000000 * grain ≤ speck * speck
unfolding speck grain
speck_square = lit≤ tt

speck_few : 1000000000000 * speck ≤ grain
unfolding speck grain
speck_few = lit≤ tt

speck_fast : speck ≤ fastest
unfolding speck fastest
speck_fast = lit≤ tt

-- ---- a stage reaches little further than the length l and E ten-thousandths of it
record Reach (E : ℕ) (x : Float) (l : ℕ) : Type 0 where
  size : ℕ
  value : Ratio x size grain
  most : size * 10000 ≤ 10020 * l + E * l + 1000 * speck

-- x ten-thousandths are no more than that length
abbrev pub NotPast : ℕ → ℕ → ℕ → Type 0
NotPast E x l = x ≤ 10005 * l + E * l + 100 * speck

-- y is no more than l, but for what rounding adds
abbrev pub NoLonger : ℕ → ℕ → Type 0
NoLonger y l = y * 4095 ≤ l * 4096 + 4096

-- the speeds a and b at the start and in the middle of a step lead no further from the length y, where it starts
pub record Share (E y a b l : ℕ) : Type 0 where
  pub first : NotPast E (10000 * y + 501 * a) l
  pub middle : NotPast E (10000 * y + 1002 * b) l

-- so it is where x is little more than what the step adds, v
pub own_share : (E y v x l : ℕ) → E ≤ 10000 → NoLonger (y + v) l → x ≤ 10000 * v + E * v + 50 * speck → NotPast E (10000 * y + x) l
own_share E y v x l few whole ahead =
    let less : NoLonger v l = omega arith in
    let scaled : E * (v * 4095) ≤ E * (l * 4096 + 4096) = mul-le-mul_left E less in
    let a : E * (v * 4095) ≡ E * v * 4095 = sym (mul_assoc E v 4095) in
    let b : E * (l * 4096 + 4096) ≡ E * l * 4096 + E * 4096 = rw (mul-add E (l * 4096) 4096, ← mul_assoc E l 4096) in
    let most : E * l ≤ 10000 * l = mul-le-mul_right l few in
    omega (arith, speck_some)

room : 4194304 * fastest ≤ top
unfolding fastest top
room = lit≤ tt

reach_most : (E y w x r l : ℕ) → E ≤ 10000 → NotPast E (10000 * y + w) l → x * 10000 ≤ w + 10000 → r * 4096 ≤ (y + x) * 4097 + 4096 →
    r * 10000 ≤ 10020 * l + E * l + 1000 * speck
reach_most E y w x r l few ahead added reached =
    let most : E * l ≤ 10000 * l = mul-le-mul_right l few in
    omega (arith, speck_some)

reach_under : (E r l : ℕ) → E ≤ 10000 → r * 10000 ≤ 10020 * l + E * l + 1000 * speck → l ≤ 1048576 * fastest → r < top
reach_under E r l few most short =
    let more : E * l ≤ 10000 * l = mul-le-mul_right l few in
    omega (arith, room, fastest_some, speck_fast)

-- a stage is X ahead of the length Y, and X is at most p ten-thousandths of the speed v
reach_by : {Y X : Float} {y p v l : ℕ} (E : ℕ) → E ≤ 10000 → Ratio Y y grain → l ≤ 1048576 * fastest → AtMost p v X → p * v ≤ 1002 * fastest →
    NotPast E (10000 * y + p * v) l → Reach E (add binary64 Y X) l
reach_by {y = y} {p} {v} {l} E few Y short x small share =
    let under : x.size < top = omega (arith, room, fastest_some, x.most) in
    let r = sum_of Y (x.value under) in
    let most = reach_most E y (p * v) x.size r.size l few share x.most (omega (arith, r.near.most)) in
    record { size = r.size; value = r.value (reach_under E r.size l few most short); most = most }

-- ---- along a quad
module _ (f : ArclenFunctor) where
  abbrev pub middle : ℕ → Float
  middle i = speed_of f (add binary64 (time_at tenth i) (half_of tenth))

  abbrev pub first : ℕ → Float
  first i = speed_of f (time_at tenth i)

  abbrev pub last : ℕ → Float
  last i = speed_of f (add binary64 (time_at tenth i) tenth)

  -- a length from the one before it: it is not negative, and where it is finite all before it are
  next : (i : ℕ) → length_at f (suc i) ≡ grown_by tenth (length_at f i) (first i) (middle i) (middle i) (last i)
  unfolding length_at
  next i = is_longer f tenth (time_at tenth i) (length_at f i)

  length_plus : (i : ℕ) → NotNegative (length_at f i)
  length_plus zero = unfold length_at of_bits in number _ _
  length_plus (suc i) = rw (next i) (grown_plus (length_plus i) (speed_plus _ _) (speed_plus _ _) (speed_plus _ _) (speed_plus _ _))

  length_fits : (i : ℕ) → T (fits binary64 (length_at f i))
  length_fits zero = unfold length_at in of_bits-fits binary64 _
  length_fits (suc i) = rw (next i) (add-fits binary64 _ _)

  added_plus : (i : ℕ) → NotNegative (mul binary64 (div binary64 tenth six) (weight_of (first i) (middle i) (last i)))
  added_plus i = weight_plus (speed_plus _ _) (speed_plus _ _) (speed_plus _ _) (speed_plus _ _)

  before : (i : ℕ) → T (finite (length_at f (suc i))) → T (finite (length_at f i))
  before i h = (add_parts (length_plus i) (added_plus i) (rw (next i) at h)).0

  step : (i : ℕ) {y : ℕ} → Ratio (length_at f i) y grain → T (finite (length_at f (suc i))) →
      Step (length_at f i) (first i) (middle i) (last i) (length_at f (suc i)) y
  step i v h = rw (next i) (grow f _ _ _ v (rw (next i) at h))

  -- the length after i steps, where it is a number
  record Long (i : ℕ) : Type 0 where
    size : ℕ
    value : Ratio (length_at f i) size grain
    most : size + fastest ≤ 4 ^ i * fastest

  long : (i : ℕ) → T (finite (length_at f i)) → Long i
  long zero h = record { size = 0; value = unfold length_at of_bits in ratio {a = 0} {c = grain} 0 (pos 0) grain_pos (omega arith); most = omega arith }
  long (suc i) h =
      let y = long i (before i h) in
      let s = step i y.value h in
      let more : 4 ^ suc i * fastest ≡ 4 ^ i * fastest * 4 = rw (pow-suc 4 i) (mul_right_comm (4 ^ i) 4 fastest) in
      record { size = s.z; value = s.end; most = omega (arith, fastest_some, y.most, s.sum.most, s.added) }

  -- no length is less than one before it
  once : (i : ℕ) {a b : ℕ} → Ratio (length_at f i) a grain → Ratio (length_at f (suc i)) b grain → a ≤ b
  once i p q = no_less p (length_fits i) (added_plus i) (rw (next i) at q)

  climbs : (i d : ℕ) {a b : ℕ} → Ratio (length_at f i) a grain → Ratio (length_at f (i + d)) b grain → a ≤ b
  climbs i zero p q =
      let none : i + 0 ≡ i = omega arith in
      le_of_eq (same_size p (rw none at q))
  climbs i (suc d) p q =
      let one : i + suc d ≡ suc (i + d) = omega arith in
      let there = rw one at q in
      let m = long (i + d) (before (i + d) (ratio_finite there)) in
      le_trans (climbs i d p m.value) (once (i + d) m.value there)

  earlier : (i d : ℕ) → T (finite (length_at f (i + d))) → T (finite (length_at f i))
  earlier i zero h =
      let none : i + 0 ≡ i = omega arith in
      rw none at h
  earlier i (suc d) h =
      let one : i + suc d ≡ suc (i + d) = omega arith in
      earlier i d (before (i + d) (rw one at h))

  -- the step i, of a quad with the length l
  pub record Part (i l : ℕ) : Type 0 where
    pub from : ℕ
    pub start : Ratio (length_at f i) from grain
    pub step : Step (length_at f i) (first i) (middle i) (last i) (length_at f (suc i)) from
    pub below : step.z ≤ l

  -- it does not end past the whole length
  pub within : {i l : ℕ} (p : Part i l) → NoLonger (p.from + p.step.v) l
  within p = omega (arith, p.step.sum.least, p.below)

  abbrev pub Parts : ℕ → Type 0
  Parts l = (i : ℕ) → i < 10 → Part i l

  parts : (whole : Long 10) → Parts whole.size
  parts whole i less =
      let rest : suc i + (9 - i) ≡ 10 = omega arith in
      let all : Ratio (length_at f (suc i + (9 - i))) whole.size grain = rw rest whole.value in
      let end = earlier (suc i) (9 - i) (ratio_finite all) in
      let from = long i (before i end) in
      let s = step i from.value end in
      record { from = from.size; start = from.value; step = s; below = climbs (suc i) (9 - i) s.end all }

  -- what is known of the speeds of ten steps
  pub record Shares (E : ℕ) : Type 0 where
    pub few : E ≤ 10000
    pub each : (l : ℕ) (all : Parts l) (i : ℕ) (less : i < 10) →
        Share E (all i less).from (all i less).step.a.size (all i less).step.b.size l

  -- the stage j of the step i
  stage_reach : (E i j : ℕ) {l : ℕ} → E ≤ 10000 → (p : Part i l) → Share E p.from p.step.a.size p.step.b.size l → l ≤ 1048576 * fastest →
      Reach E (get_or (stage_of f tenth (time_at tenth i) (length_at f i) j) 2 nan) l
  unfolding stage_of
  stage_reach E i zero few p k short = record { size = p.from; value = p.start; most = omega (arith, once i p.start p.step.end, p.below) }
  stage_reach E i (suc zero) few p k short =
      reach_by E few p.start short (by_half p.step.a.value) (omega (arith, p.step.a.most)) k.first
  stage_reach E i (suc (suc zero)) few p k short =
      reach_by E few p.start short (by_half p.step.b.value) (omega (arith, p.step.b.most)) (omega (arith, k.middle))
  stage_reach E i (suc (suc (suc j))) few p k short =
      reach_by E few p.start short (by_tenth p.step.b.value) (omega (arith, p.step.b.most)) k.middle

  -- where the whole length is a number
  reach : (E i j : ℕ) → Shares E → i < 10 → (whole : Long 10) →
      Reach E (get_or (stage_of f tenth (time_at tenth i) (length_at f i) j) 2 nan) whole.size
  reach E i j k less whole =
      let all = parts whole in
      stage_reach E i j k.few (all i less) (k.each whole.size all i less) (omega (arith, whole.most))

-- ---- a length that is not close to 0 is 2 ^ -27 at least
tiny_is : Ratio tiny 3022314549036573 302231454903657293676544
unfolding tiny round
tiny_is = ratio 3022314549036573 (negsuc 77) (pow_pos 78) refl

less_digits : (g l : ℕ) → 3022314549036573 * g ≤ l * 302231454903657293676544 → g ≤ l * 134217728
less_digits g l h =
    let fewer : 2 ^ 51 * g ≤ 3022314549036573 * g = mul-le-mul_right g (lit≤ tt) in
    let l-is : l * 2 ^ 27 * 2 ^ 51 ≡ l * 2 ^ 78 = mul_assoc l (2 ^ 27) (2 ^ 51) in
    le_of_mul-le-mul_right (rw (mul_comm g (2 ^ 51), l-is) (le_trans fewer h)) (pow_pos 51)

not_close : {x : Float} {l : ℕ} → Ratio x l grain → T (fits binary64 x) → close_to x nought ≡ false → grain ≤ l * 134217728
unfolding close_to sub of_bits
not_close {x} {l} r f h =
    less_digits grain l (less_false (level_ratio (plus_zero x f (ratio_finite r) (minus_zero (is_zero false))) r) tiny_is h)

-- ---- how far s1 is ahead of s0
pub record Gap (x : Float) : Type 0 where
  pub size : ℕ
  pub value : Ratio x size grain
  pub least : grain ≤ size * 1024
  pub most : size ≤ 16777216 * grain

pub least_is : Ratio least_gap 1 1024
unfolding of_bits
least_is = ratio 1 (negsuc 9) (pow_pos 10) refl

most_is : Ratio most_gap 16777216 1
unfolding of_bits
most_is = ratio 1 (pos 24) (pow_pos 0) refl

gap_of : {x : Float} → Sized x → lt least_gap x ≡ true → lt x most_gap ≡ true → Gap x
gap_of s h k =
    let more = less_true least_is s.value h in
    let less = less_true s.value most_is k in
    record { size = s.size; value = s.value; least = omega arith; most = omega arith }

pub gap : (x : Float) → T (fits binary64 x) → lt least_gap x ≡ true → lt x most_gap ≡ true → Gap x
gap nan f h k = absurd (unfold lt in false≢true k)
gap (inf true) f h k = absurd (unfold lt of_bits in false≢true h)
gap (inf false) f h k = absurd (unfold lt of_bits in false≢true k)
gap (fin true m e) f h k = absurd (unfold lt of_bits in false≢true h)
gap (fin false m e) f h k = gap_of (sized m e f) h k

-- ---- the arithmetic of a sample's place: d the gap, l the length, g the stretch, y the stage, and u the grain
stretch_most : (d l g u : ℕ) → 0 < u → 0 < l → d ≤ 16777216 * u → u ≤ l * 134217728 → Near (d * u) l g →
    g ≤ 9007199254740992 * u
stretch_most d l g u some more most least h =
    let square : d * u ≤ 16777216 * u * u = mul-le-mul_right u most in
    let unit : u * u ≤ l * 134217728 * u = mul-le-mul_right u least in
    let one : l * 1 ≤ l * u = mul-le-mul_left l some in
    let a : 16777216 * u * u ≡ 16777216 * (u * u) = mul_assoc 16777216 u u in
    let b : l * 134217728 * u ≡ l * u * 134217728 = mul_right_comm l 134217728 u in
    let c : 9007199254740992 * u * l ≡ l * u * 9007199254740992 = simp (mul_assoc, mul_comm, mul_left_comm) in
    le_of_mul-le-mul_right (rw c (omega (arith, h.most))) more

-- products of five, in another order
turned_left : (y c g e M : ℕ) → y * c * (g * e * M) ≡ y * g * M * (c * e)
turned_left y c g e M = simp (mul_assoc, mul_comm, mul_left_comm)

turned_right : (K l g e M : ℕ) → K * l * (g * e * M) ≡ K * M * (g * l * e)
turned_right K l g e M = simp (mul_assoc, mul_comm, mul_left_comm)

turned_last : (K M x c : ℕ) → K * M * (x * c) ≡ K * (c * M) * x
turned_last K M x c = simp (mul_assoc, mul_comm)

product_by : (K N M y g l w : ℕ) → y * 10000 ≤ K * l → g * l * 4096 ≤ w * 4098 → K * (4098 * M) ≤ N * 40960000 → y * g * M ≤ N * w
product_by K N M y g l w reached near over =
    let a : y * 10000 * (g * 4096 * M) ≤ K * l * (g * 4096 * M) = mul-le-mul_right (g * 4096 * M) reached in
    let b : K * M * (g * l * 4096) ≤ K * M * (w * 4098) = mul-le-mul_left (K * M) near in
    let c : K * (4098 * M) * w ≤ N * 40960000 * w = mul-le-mul_right w over in
    let d : N * 40960000 * w ≡ N * w * 40960000 = mul_right_comm N 40960000 w in
    omega (arith, turned_left y 10000 g 4096 M, turned_right K l g 4096 M, turned_last K M w 4098)

product_most : (E N M y g l d u : ℕ) → y * 10000 ≤ 10020 * l + E * l + 1000 * speck → 1000 * speck ≤ l → Near (d * u) l g → l * 4096 ≤ d * u →
    (10021 + E) * (4098 * M) ≤ N * 40960000 → y * g * M ≤ N * (d * u)
product_most E N M y g l d u reached some h low over =
    product_by (10021 + E) N M y g l (d * u) (omega (arith, add-mul 10021 E l)) (omega (arith, h.most)) over

length_low : (l d u t : ℕ) → l < t → t * 4194304 ≤ u * u → u ≤ d * 1024 → l * 4096 ≤ d * u
length_low l d u t less squares least =
    let unit : u * u ≤ d * 1024 * u = mul-le-mul_right u least in
    let a : d * 1024 * u ≡ d * u * 1024 = mul_right_comm d 1024 u in
    omega arith

grain_square : top * 4194304 ≤ grain * grain
unfolding grain top
grain_square = lit≤ tt

stretch_under : 9007199254740992 * grain < top
unfolding grain top
stretch_under = lit< tt

-- a gap's factor, which is more than a stage can be ahead
pub record Factor (E : ℕ) (x : Float) : Type 0 where
  pub num : ℕ
  pub den : ℕ
  pub some : 0 < den
  pub value : Ratio x num den
  pub over : (10021 + E) * (4098 * den) ≤ num * 40960000

product_le : {E l : ℕ} {factor x z w : Float} → (k : Factor E factor) → Reach E x l → Ratio z l grain → l ≤ 1048576 * fastest →
    grain ≤ l * 134217728 → Gap w → T (le (mul binary64 x (div binary64 w z)) (mul binary64 factor w))
product_le {E} {l} k r z short far w =
    let some : 0 < l = omega (arith, grain_some) in
    let d = w.size in
    let s = quotient_of w.value z some in
    let g = s.size in
    let N = k.num in
    let M = k.den in
    let under : g < top = lt_of_le_of_lt (stretch_most d l g grain grain_pos some w.most far s.near) stretch_under in
    let low : l * 4096 ≤ d * grain = length_low l d grain top (omega (arith, room, fastest_some)) grain_square w.least in
    let most : r.size * g * M ≤ N * (d * grain) =
    product_most E N M r.size g l d grain r.most (omega (arith, speck_few)) s.near low k.over in
    let a : r.size * g * (M * grain) ≡ r.size * g * M * grain = sym (mul_assoc (r.size * g) M grain) in
    let b : N * d * (grain * grain) ≡ N * (d * grain) * grain = simp (mul_assoc, mul_comm, mul_left_comm) in
    rw (mul_is r.value (s.value under), mul_is k.value w.value)
    (round_mono binary64 (r.size * g) (grain * grain) (N * d) (M * grain) (mul-pos grain_pos grain_pos) (mul-pos k.some grain_pos)
    (rw (a, b) (mul-le-mul_right grain most)))

-- ---- the stretched stage is at most that far, or it is a NaN, which is looked up at the place 0
abbrev Short : Float → Float → Type 0
Short p q = (p ≡ nan) ⊎ T (le p q)

zero_round : round binary64 false 0 1 ≡ fin false 0 (pos 0)
unfolding round
zero_round = refl

zero_le_gap : {E : ℕ} {factor w : Float} → Factor E factor → Gap w → T (le (fin false 0 (pos 0)) (mul binary64 factor w))
zero_le_gap k w =
    rw (← zero_round, mul_is k.value w.value)
    (round_mono binary64 0 1 (k.num * w.size) (k.den * grain) (pow_pos 0) (mul-pos k.some grain_pos) (omega arith))

blank_short : {E : ℕ} {factor p w : Float} → Factor E factor → IsBlank p → NotNegative p → Gap w → Short p (mul binary64 factor w)
blank_short k blank_nan n w = inl refl
blank_short k (blank (is_zero false)) n w = inr (zero_le_gap k w)
blank_short {E = E} {factor = factor} k (blank (is_zero true)) n w = elim n [ ]

-- the length z and a stage x, where the length is a number
record Ends (E : ℕ) (x z : Float) : Type 0 where
  size : ℕ
  value : Ratio z size grain
  short : size ≤ 1048576 * fastest
  reaches : Reach E x size

-- where it is not close to 0
over_short : {E : ℕ} {factor x z w : Float} → Factor E factor → NotNegative x → NotNegative z → T (fits binary64 z) → (T (finite z) → Ends E x z) → Gap w →
    close_to z nought ≡ false → Short (mul binary64 x (div binary64 w z)) (mul binary64 factor w)
over_short {x = x} k px no_number f ends w h = inl (rw (over_nan w.value) (times_nan x))
  where
    over_nan : {w : Float} {a c : ℕ} → Ratio w a c → div binary64 w nan ≡ nan
    over_nan (ratio m e p v) = unfold div in refl
over_short {x = x} k px endless f ends w h =
    rw (over_inf w.value) (blank_short k (any_times_zero x (is_zero false)) (mul_plus px (number 0 (pos 0))) w)
  where
    over_inf : {w : Float} {a c : ℕ} → Ratio w a c → div binary64 w (inf false) ≡ fin false 0 (pos 0)
    over_inf (ratio m e p v) = unfold div in refl
over_short k px (number m e) f ends w h =
    let end = ends tt in
    inr (product_le k end.reaches end.value end.short (not_close end.value f h) w)

stretched : {E : ℕ} {factor x z w : Float} → Factor E factor → NotNegative x → NotNegative z → T (fits binary64 z) → (T (finite z) → Ends E x z) → Gap w →
    Short (mul binary64 x (cond (close_to z nought) nought (div binary64 w z))) (mul binary64 factor w)
stretched {factor = factor} {x} {z} {w} k px pz f ends gap = by (close_to z nought) refl
  where
    by : (b : Bool) → close_to z nought ≡ b → Short (mul binary64 x (cond b nought (div binary64 w z))) (mul binary64 factor w)
    by true h = unfold of_bits in blank_short k (any_times_zero x (is_zero false)) (mul_plus px (number 0 (pos 0))) gap
    by false h = over_short k px pz f ends gap h

-- the stages of a quad, and the stretch w / l of them, which is 0 where the length l is close to 0
module _ (f : ArclenFunctor) where
  abbrev stretch : Float → Float
  stretch w = cond (close_to (length_at f 10) nought) nought (div binary64 w (length_at f 10))

  stage_plus : (i j : ℕ) → NotNegative (get_or (stage_of f tenth (time_at tenth i) (length_at f i) j) 2 nan)
  unfolding stage_of
  stage_plus i zero = length_plus f i
  stage_plus i (suc zero) = add_plus (length_plus f i) (mul_plus (ratio_plus half_is) (speed_plus _ _))
  stage_plus i (suc (suc zero)) = add_plus (length_plus f i) (mul_plus (ratio_plus half_is) (speed_plus _ _))
  stage_plus i (suc (suc (suc j))) = add_plus (length_plus f i) (mul_plus (ratio_plus tenth_is) (speed_plus _ _))

  ends_of : (E i j : ℕ) → Shares f E → i < 10 → T (finite (length_at f 10)) →
      Ends E (get_or (stage_of f tenth (time_at tenth i) (length_at f i) j) 2 nan) (length_at f 10)
  ends_of E i j k less h =
      let whole = long f 10 h in
      record { size = whole.size; value = whole.value; short = omega (arith, whole.most); reaches = reach f E i j k less whole }

  stage_short : {E : ℕ} {factor : Float} → Factor E factor → Shares f E → (k : ℕ) → k < 40 → {w : Float} → Gap w →
      Short (mul binary64 (get_or (stage_at f k) 2 nan) (stretch w)) (mul binary64 factor w)
  unfolding stage_at
  stage_short {E} factor shares k less g =
      stretched factor (stage_plus (k / 4) (k % 4)) (length_plus f 10) (length_fits f 10) (ends_of E (k / 4) (k % 4) shares (omega arith)) g

  product_plus : (k : ℕ) {w : Float} → Gap w → NotNegative (mul binary64 (get_or (stage_at f k) 2 nan) (stretch w))
  unfolding stage_at of_bits
  product_plus k g =
      mul_plus (stage_plus (k / 4) (k % 4))
      (either (close_to (length_at f 10) nought) (number 0 (pos 0)) (div_plus (ratio_plus g.value) (length_plus f 10)))

-- ---- the length that it starts from: 0 may have either sign
record Start (x : Float) : Type 0 where
  own : Float
  plus : NotNegative own
  same : {p : Float} → NotNegative p → add binary64 x p ≡ add binary64 own p

minus_nothing : (a b c : ℕ) → a ≡ 0 → sum binary64 true a false b c ≡ round binary64 false (a + b) c
unfolding sum
minus_nothing a b c z = by (ltb a b) (ltb-false a b)
  where
    all : b - a ≡ a + b
    all = omega arith

    by : (t : Bool) → (t ≡ false → b ≤ a) →
        cond t (round binary64 false (b - a) c) (round binary64 (true && ltb b a) (a - b) c) ≡ round binary64 false (a + b) c
    by true h = rw all
    by false h =
        let none : b ≤ a = h refl in
        let nothing : a - b ≡ a + b = omega arith in
        rw (le-ltb b a (omega arith), nothing)

minus_same : (e : ℤ) {p : Float} → NotNegative p → add binary64 (fin true 0 e) p ≡ add binary64 (fin false 0 e) p
unfolding add sum
minus_same e no_number = refl
minus_same e endless = refl
minus_same e (number n d) = minus_nothing (0 * up e * down d) (n * up d * down e) (down e * down d) (omega arith)

no_minus : (m : ℕ) (e : ℤ) → le nought (fin true m e) ≡ true → m ≡ 0
unfolding le of_bits
no_minus zero e h = refl
no_minus (suc m) e h =
    let a = 0 * 1 * down e in
    let b = suc m * up e * 1 in
    let same : a ≡ b = eqb→eq a b (and_l (eqb a b) (eqb a 0) (subst T (sym h) tt)) in
    absurd (omega (arith, mul-pos (zero-lt-suc m) (up_pos e)))

start_of : (x : Float) → le nought x ≡ true → Start x
start_of nan h = absurd (unfold le of_bits in false≢true h)
start_of (inf true) h = absurd (unfold le of_bits in false≢true h)
start_of (inf false) h = record { own = inf false; plus = endless; same = λ p. refl }
start_of (fin false m e) h = record { own = fin false m e; plus = number m e; same = λ p. refl }
start_of (fin true m e) h = record { own = fin false 0 e; plus = number 0 e; same = rw (no_minus m e h) (minus_same e) }

-- ---- the stages of a quad, as a list
unfoldable listed : (ℕ → List Float) → ℕ → ℕ → List (List Float)
listed g k zero = []
listed g k (suc n) = g k ∷ listed g (suc k) n

listed_at : (g : ℕ → List Float) (k n j : ℕ) → j < n → get_or (listed g k n) j [] ≡ g (k + j)
unfolding listed
listed_at g k (suc n) zero less =
    let none : k + 0 ≡ k = omega arith in
    rw none
listed_at g k (suc n) (suc j) less =
    let one : k + suc j ≡ suc k + j = omega arith in
    rw one (listed_at g (suc k) n j (omega arith))
listed_at g k zero j less = elim less [ ]

abbrev stages_of : ArclenFunctor → List (List Float)
stages_of f = listed (stage_at f) 0 40

stages_written : (f : ArclenFunctor) → Written f (stages_of f)
stages_written f = record { is = λ k less. listed_at (stage_at f) 0 40 k less ∙ ap (stage_at f) (zero-add k) }

-- ---- the gap, times the factor, ends before the last stored place
module _ {row : List (List Float)} {s0 s1 factor : Float} (w : WellBefore row s0 s1 factor) {E : ℕ} (k : Factor E factor) where
  between : Gap (sub binary64 s1 s0)
  between = gap (sub binary64 s1 s0) (sub-fits binary64 s1 s0) w.least w.most

  place : {p : Float} → NotNegative p → Short p (mul binary64 factor (sub binary64 s1 s0)) → to_unsigned 64 (add binary64 s0 p) + 1 < length row
  place np (inl is_nan) = rw (is_nan, plus_nan s0) (unfold to_unsigned in omega (arith, w.some))
  place np (inr less) =
      let start = start_of s0 w.from in
      let far = mul_plus (ratio_plus k.value) (ratio_plus between.value) in
      place_inside row (length row - 1) (omega (arith, w.some)) (omega (arith, w.some)) (omega (arith, w.exact)) _
      (rw (start.same np) (adding _ start.plus np far less (rw (start.same far) at w.before_end)))

  along : (q : Quad) → Shares (arclen_functor_of q) E → (j : ℕ) → j < 40 →
      to_unsigned 64 (along_samples (measure_functor_of s0 s1 q) (get_or (get_or (stages_of (arclen_functor_of q)) j []) 2 nan)) + 1 < length row
  unfolding stretch_of
  along q shares j less =
      let f = arclen_functor_of q in
      rw ((stages_written f).is j less, ← length_whole q f (length_at f 10) refl refl) (place (product_plus f j between) (stage_short f k shares j less between))

  pub seen_by : (q : Quad) → Shares (arclen_functor_of q) E → Shows row s0 s1 q
  seen_by q shares =
      let stages = stages_of (arclen_functor_of q) in
      record { stages = stages; written = stages_written (arclen_functor_of q); shown = answered row (measure_functor_of s0 s1 q) stages (along q shares) }
