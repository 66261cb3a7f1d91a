-- `hypot` in the bend test, the `norm_of` of `angle_corner`, is the root, rounded once, of the exact whole sum of squares: the steps of a
-- contour are exact whole numbers below 2 ^ 17, so that their squares and the sum of these are exact. `bend_test_exact` says so of every tangent
-- of a contour: a theorem on the definitions, for a reader, which no proof of a function uses. Assumes nothing.
use Prim.Native.Nat.{ℕ, ◌+◌, ◌*◌, ◌^◌, ◌≤◌, ◌<◌}
use mathlib.Core.Bool.{Bool, true, false, true≢false}
use mathlib.Core.List.{List}
use mathlib.Core.Path.{◌≡◌, refl, sym, ap, ◌∙◌}
use native.Mathlib.Nat.{le_refl, mul-one, mul-mul-mul_comm, mul-pos, add-mul, mul-le-mul}
use native.Mathlib.Omega.{arith}
use lib.Dec.{lit≤}
use lib.IntN.{ℤ, pos, negsuc, nat_abs, ◌+ℤ◌, ◌-ℤ◌, ◌*ℤ◌, +ℤ_idr}
use lib.Signed.{mag}
use lib.ListN.{length, get_or}
use lib.Ieee.{Float, fin, binary64, up, down, unlike, round, sum, add, sub, mul, of_int, of_bits}
use lib.Ieee.Exact.{HasValue}
use lib.Ieee.Fits.{down_pos, round-fits, add-fits}
use lib.Ieee.Back.{round_whole, whole_unique}
use Rattle.rows.specs.Sixteen.{SixteenBits}
use Rattle.rows.proofs.Sixteen.{sixteen_at}
use Rattle.float.specs.Numbers.{nought}
use Rattle.float.specs.Float.{root_of}
use Rattle.float.specs.Dyadic.{Exact, signed}
use Rattle.float.proofs.Dyadic.{round_unit, left, right, size_signed, size_of, sub_exact, whole_exact}
use Rattle.geometry.specs.declared.Point.{Point}
use Rattle.geometry.specs.Geometry.{squares, norm_of}
use Rattle.outline.specs.Segments.{on_at, next_of, end_if, end_of, start_of, coordinate, step, seg_if, seg_from, leaving_of, arriving_of, previous}
use Rattle.corners.specs.Statements.{whole_sum, exact_hypot, leaving_hypot, arriving_hypot, BendTestIsExact}

-- x is the whole number ±size
pub record Whole (x : Float) (size : ℕ) : Type 0 where
  pub sign : Bool
  pub value : HasValue x sign size 1

-- what the value of a finite number says
plain : (m : ℕ) (e : ℤ) (a : ℕ) → m * up e * 1 ≡ a * down e → m * up e ≡ a * down e
plain m e a h = sym (mul-one (m * up e)) ∙ h

square : (x : Float) (s : Bool) (a : ℕ) → HasValue x s a 1 → a * a < 2 ^ 53 → HasValue (mul binary64 x x) false (a * a) 1
unfolding mul
square (fin s m e) t a v small = by s
  where
    p : m * up e ≡ a * down e
    p = plain m e a v.1

    h : m * up e * (m * up e) ≡ a * a * (down e * down e)
    h = rw p (mul-mul-mul_comm a (down e) a (down e))

    by : (s : Bool) → HasValue (round binary64 (unlike s s) (m * up e * (m * up e)) (down e * down e)) false (a * a) 1
    by true = round_unit 0 false _ _ (a * a) (lit≤ tt) (mul-pos (down_pos e) (down_pos e)) small (mul-one (m * up e * (m * up e)) ∙ h)
    by false = round_unit 0 false _ _ (a * a) (lit≤ tt) (mul-pos (down_pos e) (down_pos e)) small (mul-one (m * up e * (m * up e)) ∙ h)
square lib.Ieee.nan t a v small = elim v [ ]
square (lib.Ieee.inf _) t a v small = elim v [ ]

total : (x y : Float) (a b : ℕ) → HasValue x false a 1 → HasValue y false b 1 → a + b < 2 ^ 53 → HasValue (add binary64 x y) false (a + b) 1
unfolding add sum
total (fin true m e) (fin t n d) a b v w small = absurd (true≢false v.0)
total (fin false m e) (fin true n d) a b v w small = absurd (true≢false w.0)
total (fin false m e) (fin false n d) a b v w small =
    round_unit 0 false _ _ (a + b) (lit≤ tt) (mul-pos (down_pos e) (down_pos d)) small
    (add-mul (m * up e * down d) (n * up d * down e) 1 ∙ rw (left m n a b 1 e d v.1 w.1, right m n a b 1 e d v.1 w.1) (sym (add-mul a b (down e * down d))))
total lib.Ieee.nan y a b v w small = elim v [ ]
total (lib.Ieee.inf _) y a b v w small = elim v [ ]
total (fin false m e) lib.Ieee.nan a b v w small = elim w [ ]
total (fin false m e) (lib.Ieee.inf _) a b v w small = elim w [ ]
total (fin true m e) lib.Ieee.nan a b v w small = elim w [ ]
total (fin true m e) (lib.Ieee.inf _) a b v w small = elim w [ ]

-- ---- a step: the difference of two coordinates

-- the step between two coordinates of 16 bits is their exact difference, of at most 2 ^ 16
module _ (u v : ℤ) (hu : nat_abs u ≤ 2 ^ 15) (hv : nat_abs v ≤ 2 ^ 15) where
  exact : Exact (sub binary64 (of_int binary64 u) (of_int binary64 v)) (u -ℤ v) 0 (2 ^ 15 + 2 ^ 15)
  exact = sub_exact (lit≤ tt) (lit≤ tt) (whole_exact u (2 ^ 15) hu (lit≤ tt)) (whole_exact v (2 ^ 15) hv (lit≤ tt))

  pub step_whole : Whole (sub binary64 (of_int binary64 u) (of_int binary64 v)) (nat_abs (u -ℤ v))
  step_whole = rw (← size_of exact) (record { sign = exact.sign; value = exact.value })

  step_most : nat_abs (u -ℤ v) ≤ 2 ^ 16
  step_most = rw (← size_of exact) exact.small

  pub step_small : nat_abs (u -ℤ v) < 2 ^ 17
  step_small = omega (arith, step_most)

-- less 0 a whole number has its own size
pub minus_nil : (x : Float) (a : ℕ) → Whole x a → a < 2 ^ 53 → Whole (sub binary64 x nought) a
minus_nil x a v small =
    let own : Exact x (signed v.sign a) 0 a = record { sign = v.sign; size = a; value = v.value; is = refl; small = le_refl a } in
    let less = sub_exact (lit≤ tt) (omega arith) own none in
    rw (← size_of less ∙ kept v.sign a) (record { sign = less.sign; value = less.value })
  where
    none : Exact nought (pos 0) 0 0
    none = record { sign = false; size = 0; value = unfold of_bits in (refl, refl); is = refl; small = le_refl 0 }

    kept : (s : Bool) (n : ℕ) → nat_abs (signed s n -ℤ pos 0) ≡ n
    kept s n = ap nat_abs (+ℤ_idr (signed s n)) ∙ size_signed s n

-- ---- the length of a step

-- the sum of the squares of two whole numbers is not rounded
squares_exact : (x y : Float) (a b : ℕ) → Whole x a → Whole y b → a < 2 ^ 17 → b < 2 ^ 17 → squares x y ≡ of_int binary64 (pos (a * a + b * b))
unfolding of_int
squares_exact x y a b v w ha hb =
    let sa : a * a ≤ 2 ^ 17 * 2 ^ 17 = mul-le-mul {n₂ = 2 ^ 17} {m₂ = 2 ^ 17} (omega arith) (omega arith) in
    let sb : b * b ≤ 2 ^ 17 * 2 ^ 17 = mul-le-mul {n₂ = 2 ^ 17} {m₂ = 2 ^ 17} (omega arith) (omega arith) in
    let n = a * a + b * b in
    whole_unique binary64 (squares x y) (round binary64 false n 1) false n (add-fits binary64 _ _) (round-fits binary64 false n 1)
    (total (mul binary64 x x) (mul binary64 y y) (a * a) (b * b) (square x v.sign a v.value (omega arith)) (square y w.sign b w.value (omega arith)) (omega arith))
    (round_whole binary64 false n (omega arith))

length_exact : (d : Point) (a b : ℕ) → Whole d.x a → Whole d.y b → a < 2 ^ 17 → b < 2 ^ 17 → norm_of d ≡ root_of (of_int binary64 (pos (a * a + b * b)))
length_exact d a b v w ha hb = ap root_of (squares_exact d.x d.y a b v w ha hb)

square_is : (z : ℤ) → z *ℤ z ≡ pos (nat_abs z * nat_abs z)
square_is (pos n) = refl
square_is (negsuc n) = refl

-- a tangent between two points of 16 bits: `hypot` of it is the root, rounded once, of the exact whole sum of squares
hypot_exact : (x0 y0 x1 y1 : ℤ) → nat_abs x0 ≤ 2 ^ 15 → nat_abs y0 ≤ 2 ^ 15 → nat_abs x1 ≤ 2 ^ 15 → nat_abs y1 ≤ 2 ^ 15 →
    norm_of (step (of_int binary64 x0) (of_int binary64 y0) (of_int binary64 x1) (of_int binary64 y1))
    ≡ root_of (of_int binary64 ((x1 -ℤ x0) *ℤ (x1 -ℤ x0) +ℤ (y1 -ℤ y0) *ℤ (y1 -ℤ y0)))
hypot_exact x0 y0 x1 y1 hx0 hy0 hx1 hy1 =
    rw (square_is (x1 -ℤ x0), square_is (y1 -ℤ y0))
    (length_exact _ _ _ (step_whole x1 x0 hx1 hx0) (step_whole y1 y0 hy1 hy0) (step_small x1 x0 hx1 hx0) (step_small y1 y0 hy1 hy0))

-- the sum is at most 2 ^ 33, so that `of_int` rounds nothing
sum_exact : (x0 y0 x1 y1 : ℤ) → nat_abs x0 ≤ 2 ^ 15 → nat_abs y0 ≤ 2 ^ 15 → nat_abs x1 ≤ 2 ^ 15 → nat_abs y1 ≤ 2 ^ 15 →
    let sum = (x1 -ℤ x0) *ℤ (x1 -ℤ x0) +ℤ (y1 -ℤ y0) *ℤ (y1 -ℤ y0) in
    Exact (of_int binary64 sum) sum 0 (2 ^ 33)
sum_exact x0 y0 x1 y1 hx0 hy0 hx1 hy1 =
    let a = nat_abs (x1 -ℤ x0) in
    let b = nat_abs (y1 -ℤ y0) in
    let ha : a * a ≤ 2 ^ 16 * 2 ^ 16 = mul-le-mul (step_most x1 x0 hx1 hx0) (step_most x1 x0 hx1 hx0) in
    let hb : b * b ≤ 2 ^ 16 * 2 ^ 16 = mul-le-mul (step_most y1 y0 hy1 hy0) (step_most y1 y0 hy1 hy0) in
    let most : a * a + b * b ≤ 2 ^ 33 = omega arith in
    rw (square_is (x1 -ℤ x0), square_is (y1 -ℤ y0)) (whole_exact (pos (a * a + b * b)) (2 ^ 33) most (lit≤ tt))

-- ---- the tangents of a contour

size_most : (z : ℤ) → mag z < 2 ^ 15 → nat_abs z ≤ 2 ^ 15
size_most (pos n) h = omega arith
size_most (negsuc n) h = h

pub size_at : (row : List ℤ) → SixteenBits row → (i : ℕ) → nat_abs (get_or row i (pos 0)) ≤ 2 ^ 15
size_at row s i = size_most (get_or row i (pos 0)) (sixteen_at row s i)

-- each is the step between two of its points
module _ (xs ys : List ℤ) where
  abbrev pub between : ℕ → ℕ → Point
  between i j = step (coordinate xs i) (coordinate ys i) (coordinate xs j) (coordinate ys j)

  -- of a line from a to b, and of a quad from a to c with its control at b
  leaves : (t : Bool) (a b c : ℕ) → leaving_of (seg_if xs ys t a b c) ≡ between a b
  leaves true a b c = refl
  leaves false a b c = refl

  arrives : (t : Bool) (a b c : ℕ) → arriving_of (seg_if xs ys t a b c) ≡ between (end_if t a b) (end_if t b c)
  arrives true a b c = refl
  arrives false a b c = refl

  module _ (fs : List ℕ) (a : ℕ) where
    abbrev next : ℕ
    next = next_of a (length fs)

    pub leaving_is : leaving_of (seg_from xs ys fs a) ≡ between a next
    unfolding seg_from
    leaving_is = leaves (on_at fs next) a next (next_of next (length fs))

    pub arriving_is : arriving_of (seg_from xs ys fs a) ≡ between (end_if (on_at fs next) a next) (end_of fs a)
    unfolding seg_from end_of
    arriving_is = arrives (on_at fs next) a next (next_of next (length fs))

-- and its length is exact
module _ (xs ys : List ℤ) (fs : List ℕ) (sx : SixteenBits xs) (sy : SixteenBits ys) where
  places : (i j : ℕ) → norm_of (between xs ys i j) ≡ exact_hypot xs ys i j
  places i j = hypot_exact _ _ _ _ (size_at xs sx i) (size_at ys sy i) (size_at xs sx j) (size_at ys sy j)

  sums_at : (i j : ℕ) → Exact (of_int binary64 (whole_sum xs ys i j)) (whole_sum xs ys i j) 0 (2 ^ 33)
  sums_at i j =
      sum_exact (get_or xs i (pos 0)) (get_or ys i (pos 0)) (get_or xs j (pos 0)) (get_or ys j (pos 0))
      (size_at xs sx i) (size_at ys sy i) (size_at xs sx j) (size_at ys sy j)

  leaves_at : (a : ℕ) → norm_of (leaving_of (seg_from xs ys fs a)) ≡ leaving_hypot xs ys fs a
  leaves_at a = ap norm_of (leaving_is xs ys fs a) ∙ places _ _

  arrives_at : (a : ℕ) → norm_of (arriving_of (seg_from xs ys fs a)) ≡ arriving_hypot xs ys fs a
  arrives_at a = ap norm_of (arriving_is xs ys fs a) ∙ places _ _

pub bend_test_exact : BendTestIsExact
bend_test_exact xs ys fs sx sy = record {
  whole = λ i j. sums_at xs ys fs sx sy i j;
  leaving = λ k. leaves_at xs ys fs sx sy (start_of fs k);
  arriving = λ k. arrives_at xs ys fs sx sy (start_of fs k);
  test = λ m k. rw (arrives_at xs ys fs sx sy (start_of fs (previous m k)), leaves_at xs ys fs sx sy (start_of fs k));
}
