-- A measure that is given up at its first stage: what the angle adds there is no more than the whole error, whatever s1. Assumes nothing.
use Prim.Native.Nat.{ℕ, ◌+◌, ◌*◌, ◌≤◌, ◌<◌}
use mathlib.Core.Bool.{Bool, true, false, false≢true}
use mathlib.Core.Logic.{◌⊎◌, inl, inr}
use mathlib.Core.Path.{◌≡◌, refl, sym, ap, ◌∙◌}
use mathlib.Core.List.{List, [], ◌∷◌}
use native.Mathlib.Nat.{mul_assoc, mul_comm, mul_right_comm, add-mul, mul-pos, mul-le-mul_left, mul-le-mul_right, le_of_mul-le-mul_right, lt_of_mul-lt-mul_right}
use native.Mathlib.Omega.{arith}
use lib.Dec.{T}
use lib.Pow.{pow_pos}
use lib.ListN.{get_or}
use lib.IntN.{ℤ, pos, negsuc}
use lib.Ieee.{Float, nan, inf, fin, binary64, up, down, fits, round, add, sub, mul, div, lt, to_unsigned, of_bits}
use lib.Ieee.Fits.{down_pos, add-fits, mul-fits}
use lib.Ieee.Order.{transfer}
use lib.Ieee.Positive.{first_pos}
use lib.Ieee.Scale.{round_same}
use Rattle.float.specs.Numbers.{nought, six}
use Rattle.float.specs.Float.{whole_by, fract_of, root_of}
use Rattle.float.proofs.Own.{itself}
use Rattle.float.proofs.Zeros.{IsZero, is_zero, IsBlank, blank, blank_nan, any_times_zero, Level, one_sign, zeros, plus_zero, plus_nan, times_nan}
use Rattle.float.proofs.NotNegative.{NotNegative, number, add_plus, mul_plus, div_plus, square_plus, squares_plus, less_finite}
use Rattle.float.proofs.Nearly.{Near, grain, grain_pos, grain_some, top, room, Ratio, ratio, ratio_plus, size_of, times, mul_parts, less_true}
use Rattle.float.proofs.Roots.{root_le, root_of_lem}
use Rattle.geometry.specs.Geometry.{along_of, point_at_t}
use Rattle.geometry.specs.declared.Point.{Point}
use Rattle.geometry.specs.declared.Quad.{Quad}
use Rattle.arclen.specs.Arclen.{tenth, arclen_functor_of, deriv_of, speed_of}
use Rattle.quickarclen.specs.Stages.{time_at, length_at, stage_of, stage_at}
use Rattle.arclen.specs.declared.ArclenFunctor.{ArclenFunctor}
use Rattle.lookup.specs.Lookup.{origin, looked_up}
use Rattle.quicklookup.specs.Spots.{spot_at}
use Rattle.quicklookup.specs.declared.Spot.{Spot}
use Rattle.quicklookup.proofs.Laws.{past, last, inside}
use Rattle.measure.specs.Measure.{dist_factor, angle_factor, angleerr_of, error_of, measure_functor_of, measure_of}
use Rattle.quickmeasure.specs.Terms.{spot_in, term_in, sums_of}
use Rattle.measure.specs.Fallen.{fallen_of}
use Rattle.quickmeasure.specs.Early.{Shows, Beyond}
use Rattle.quickmeasure.specs.Turned.{one_and_more, share_of, Off, Turned}
use Rattle.quickmeasure.proofs.Signs.{speed_plus, term_plus}
use Rattle.quickmeasure.proofs.Climb.{above_plus}
use Rattle.quickmeasure.proofs.NoMore.{NoMore, than_nan, no_more_than, first_part, last_part, times_more, over_more, still_less}
use Rattle.quickmeasure.proofs.Ahead.{sixth_is, two_is, Gap, gap}
use Rattle.quickmeasure.proofs.Early.{falls, told}
use Rattle.std.specs.Prelude.{Option, Some, None}

-- ---- the speed is no more than w, by their squares
more_is : Ratio one_and_more 1025 1024
unfolding of_bits
more_is = ratio 1025 (negsuc 9) (pow_pos 10) refl

-- q is the square of w, rounded
square_under : (w u q t : ℕ) → 0 < u → w ≤ 16777216 * u → Near (w * w) u q → 18446744073709551616 * u ≤ t → q < t
square_under w u q t some few near room =
    let most : w * w ≤ 16777216 * u * w = mul-le-mul_right w few in
    let a : 16777216 * u * w ≡ 16777216 * w * u = mul_right_comm 16777216 u w in
    let b : q * 4096 * u ≡ q * u * 4096 = mul_right_comm q 4096 u in
    let c : (68736253952 * w + 4096) * u ≡ 68736253952 * w * u + 4096 * u = add-mul (68736253952 * w) 4096 u in
    let d : 16777216 * w * u ≡ 16777216 * (w * u) = mul_assoc 16777216 w u in
    let e : 68736253952 * w * u ≡ 68736253952 * (w * u) = mul_assoc 68736253952 w u in
    let short : q * 4096 ≤ 68736253952 * w + 4096 = le_of_mul-le-mul_right (rw (b, c) (omega (arith, near.most))) some in
    omega arith

-- v is nearly the root of n, and p is n and more, rounded
speed_under : (v w n u p q : ℕ) → 100000000000000 ≤ u → u ≤ w * 1024 → v * v * 100000 ≤ 100001 * (n * u) → Near (1025 * n) 1024 p → Near (w * w) u q → p < q → v ≤ w
speed_under v w n u p q many some root more near less =
    let scaled : 4197375 * n * u ≤ q * 4194304 * u = mul-le-mul_right u (omega (arith, more.least)) in
    let a : 4197375 * n * u ≡ 4197375 * (n * u) = mul_assoc 4197375 n u in
    let b : q * 4194304 * u ≡ q * u * 4194304 = mul_right_comm q 4194304 u in
    let one : u * w ≤ w * 1024 * w = mul-le-mul_right w some in
    let c : w * 1024 * w ≡ w * w * 1024 = mul_right_comm w 1024 w in
    let far : u * 4294967296 ≤ u * w = mul-le-mul_left u (omega arith) in
    root_le v w (omega (arith, near.most))

-- v and w are numbers, w above 0, and v is no more
data Within : Float → Float → Type 0 where
  within : (m n : ℕ) (e d : ℤ) → 0 < n → m * up e * down d ≤ n * up d * down e → Within (fin false m e) (fin false n d)

within_by : {v w : Float} {a b c : ℕ} → Ratio v a c → Ratio w b c → 0 < b → a ≤ b → Within v w
within_by {a = a} {b} {c} (ratio m e p v) (ratio n d q w) some less =
    within m n e d (first_pos n (up d) (first_pos (n * up d) c (rw w (mul-pos some (down_pos d)))))
    (transfer (m * up e) (n * up d) (down e) (down d) a b c c p q v w (mul-le-mul_right c less))

within_root : {s w : Float} → NotNegative s → T (fits binary64 s) → Gap w → lt (mul binary64 one_and_more s) (mul binary64 w w) ≡ true → Within (root_of s) w
within_root ps fs g h =
    let bounded = less_finite _ (mul_plus (ratio_plus more_is) ps) h in
    let s = size_of ps fs (mul_parts (ratio_plus more_is) ps bounded).1 in
    let p = times more_is (pow_pos 10) s.value in
    let q = times g.value grain_pos g.value in
    let under = square_under g.size grain q.size top grain_pos g.most q.near room in
    let less = lt_of_mul-lt-mul_right grain (less_true (p.value (p.under bounded)) (q.value under) h) in
    let r = root_of_lem s.value in
    within_by r.value g.value (omega (arith, g.least, grain_some))
    (speed_under r.size g.size s.size grain p.size q.size grain_some g.least r.most p.near q.near less)

-- ---- the constants are not negative
nought_plus : NotNegative nought
nought_plus = unfold of_bits in number _ _

five_plus : NotNegative angle_factor
five_plus = unfold of_bits in number _ _

small_plus : NotNegative dist_factor
small_plus = unfold of_bits in number _ _

-- ---- what a stage adds with the speed w is no more than with the speed v
angle_more : {v w : Float} (d dir : Point) → Within v w → NoMore (angleerr_of w d dir) (angleerr_of v d dir)
angle_more d dir (within m n e g some h) = over_more (square_plus _) m n e g some h

term_more : {v w : Float} (d p xy dir : Point) → NotNegative v → Within v w → NoMore (mul binary64 angle_factor (angleerr_of w d dir)) (error_of v d p xy dir)
unfolding error_of
term_more d p xy dir plus h =
    no_more_than (times_more five_plus (angle_more d dir h))
    (last_part (mul_plus five_plus (div_plus (square_plus _) plus)) (mul-fits binary64 _ _) (mul_plus small_plus (mul_plus (squares_plus _ _) plus)))

-- a direction that is a NaN makes the term one
nan_less : (a b : Float) → sub binary64 (mul binary64 nan a) b ≡ nan
unfolding sub mul
nan_less a b = refl

nan_squared : (v : Float) → div binary64 (mul binary64 nan nan) v ≡ nan
unfolding div mul
nan_squared v = refl

term_nan : {x : Float} (v : Float) (d p xy dir : Point) → dir.x ≡ nan → NoMore x (error_of v d p xy dir)
unfolding error_of
term_nan v d p xy dir h = rw (h, nan_less d.y _, nan_squared v, times_nan angle_factor, plus_nan _) (than_nan _)

-- ---- of the first step no part is more than the sum
first_share : (g : ℕ → Float) {x : Float} → ((k : ℕ) → k < 4 → NotNegative (g k)) → T (fits binary64 (g 0)) → NoMore x (g 0) →
    NoMore (mul binary64 (div binary64 tenth six) x) (sums_of g 1)
unfolding sums_of
first_share g all f h =
    let outer = add_plus (all 0 (omega arith)) (all 3 (omega arith)) in
    let inner = mul_plus (ratio_plus two_is) (add_plus (all 2 (omega arith)) (all 1 (omega arith))) in
    let more = no_more_than h (no_more_than (first_part (all 0 (omega arith)) f (all 3 (omega arith))) (first_part outer (add-fits binary64 _ _) inner)) in
    no_more_than (times_more (ratio_plus sixth_is) more) (last_part (mul_plus (ratio_plus sixth_is) (add_plus outer inner)) (mul-fits binary64 _ _) nought_plus)

-- ---- the sample of the first stage: 0 times the stretch is a zero or a NaN
zero_first : (t : Bool) (n : ℕ) (d : ℤ) → mul binary64 nought (fin t n d) ≡ mul binary64 (fin t n d) (fin false 0 (pos 0))
unfolding mul of_bits
zero_first true n d = rw (mul_comm 0 (n * up d), mul_comm 1 (down d))
zero_first false n d = rw (mul_comm 0 (n * up d), mul_comm 1 (down d))

zero_times : (y : Float) → IsBlank (mul binary64 nought y)
zero_times nan = unfold mul of_bits in blank_nan
zero_times (inf s) = unfold mul of_bits in blank_nan
zero_times (fin t n d) = rw (zero_first t n d) (any_times_zero (fin t n d) (is_zero false))

-- two f64s of one value and one sign are one, and zeros have one place and one fraction
same_spot : (row : List (List Float)) (x y : Float) → to_unsigned 64 x ≡ to_unsigned 64 y → fract_of x ≡ fract_of y → spot_at row x ≡ spot_at row y
unfolding looked_up
same_spot row x y p q = rw (p, q)

zero_place : (s : Bool) → to_unsigned 64 (fin s 0 (pos 0)) ≡ 0
unfolding to_unsigned
zero_place true = refl
zero_place false = refl

zero_part : (s : Bool) → fract_of (fin s 0 (pos 0)) ≡ fin false 0 (pos 0)
unfolding whole_by sub round
zero_part true = refl
zero_part false = refl

level_spot : (row : List (List Float)) {x y : Float} → T (fits binary64 x) → T (fits binary64 y) → Level x y → spot_at row x ≡ spot_at row y
level_spot row f g (one_sign s m n e d h) =
    ap (spot_at row) (sym (itself s m e f) ∙ round_same binary64 s (m * up e) (down e) (n * up d) (down d) (down_pos e) (down_pos d) h ∙ itself s n d g)
level_spot row f g (zeros (is_zero s) (is_zero t)) = same_spot row _ _ (zero_place s ∙ sym (zero_place t)) (zero_part s ∙ sym (zero_part t))

zero_further : (row : List (List Float)) (s : Float) {z : Float} → T (fits binary64 s) → IsZero z → spot_at row (add binary64 s z) ≡ spot_at row s
zero_further row nan f z = unfold add in refl
zero_further row (inf s) f (is_zero t) = unfold add in refl
zero_further row (fin s m e) f z = level_spot row (add-fits binary64 _ _) f (plus_zero (fin s m e) f tt z)

at_nan : 0 ≡ to_unsigned 64 nan
unfolding to_unsigned
at_nan = refl

-- a place that is a NaN has a direction that is one, or the row is empty, and all places have one direction
nan_along : (a b : Float) → along_of a b (fract_of nan) ≡ nan
unfolding sub mul
nan_along a b = plus_nan a

abbrev direction_in : Option Spot → Point
direction_in (Some c) = c.dir
direction_in None = origin

abbrev is_seen : Option Spot → Bool
is_seen (Some c) = true
is_seen None = false

nan_spot : (row : List (List Float)) (s : Float) {a b : Spot} → spot_at row nan ≡ Some a → spot_at row s ≡ Some b → (a.dir ≡ b.dir) ⊎ (a.dir.x ≡ nan)
nan_spot [] s p q = inl (ap direction_in (sym p ∙ past [] nan _ refl (omega arith) ∙ sym (past [] s _ refl (omega arith)) ∙ q))
nan_spot (r ∷ []) s p q = absurd (false≢true (ap is_seen (sym (last (r ∷ []) nan 0 at_nan (omega arith) (omega arith)) ∙ p)))
nan_spot (r ∷ t ∷ rs) s p q = inr (ap (λ l. (direction_in l).x) (sym p ∙ inside (r ∷ t ∷ rs) nan 0 at_nan (omega arith)) ∙ nan_along _ _)

seen_first : (row : List (List Float)) (s y : Float) {a b : Spot} → T (fits binary64 s) → spot_at row (add binary64 s (mul binary64 nought y)) ≡ Some a →
    spot_at row s ≡ Some b → (a.dir ≡ b.dir) ⊎ (a.dir.x ≡ nan)
seen_first row s y {a} {b} f p q = by (zero_times y) p
  where
    by : {z : Float} → IsBlank z → spot_at row (add binary64 s z) ≡ Some a → (a.dir ≡ b.dir) ⊎ (a.dir.x ≡ nan)
    by (blank z) p = inl (ap direction_in (sym p ∙ zero_further row s f z ∙ q))
    by blank_nan p = nan_spot row s (rw (plus_nan s) at p) q

-- ---- the measure of q between the lengths s0 and s1
module _ {row : List (List Float)} {s0 base limit w : Float} {q : Quad} (off : Off row s0 (deriv_of (arclen_functor_of q) nought) w base limit)
    (s1 : Float) (k : Shows row s0 s1 q) where
  abbrev f : ArclenFunctor
  f = arclen_functor_of q

  abbrev d : Point
  d = deriv_of f nought

  abbrev seen : List Float
  seen = get_or k.shown.seen 0 []

  abbrev g : ℕ → Float
  g = term_in f q k.stages k.shown.seen

  first_stage : get_or k.stages 0 [] ≡ nought ∷ speed_of f nought ∷ nought ∷ []
  unfolding stage_at stage_of time_at length_at
  first_stage = k.written.is 0 (omega arith)

  sighted : ((spot_in seen).dir ≡ off.spot.dir) ⊎ ((spot_in seen).dir.x ≡ nan)
  sighted = seen_first row s0 (measure_functor_of s0 s1 q).ss off.from (rw first_stage at (k.shown.all.is 0 (omega arith))) off.is

  speed_within : Within (speed_of f nought) w
  unfolding speed_of
  speed_within = within_root (squares_plus _ _) (add-fits binary64 _ _) (gap w off.whole off.some off.few) off.wide

  first_term : g 0 ≡ error_of (speed_of f nought) d (point_at_t q nought) (spot_in seen).xy (spot_in seen).dir
  first_term = rw first_stage

  term_fits : T (fits binary64 (g 0))
  unfolding error_of
  term_fits = add-fits binary64 _ _

  least : NoMore (mul binary64 angle_factor (angleerr_of w d off.spot.dir)) (g 0)
  least = rw first_term (by sighted)
    where
      by : ((spot_in seen).dir ≡ off.spot.dir) ⊎ ((spot_in seen).dir.x ≡ nan) →
          NoMore (mul binary64 angle_factor (angleerr_of w d off.spot.dir)) (error_of (speed_of f nought) d (point_at_t q nought) (spot_in seen).xy (spot_in seen).dir)
      by (inl same) = rw (← same) (term_more d (point_at_t q nought) (spot_in seen).xy (spot_in seen).dir (speed_plus f nought) speed_within)
      by (inr none) = term_nan (speed_of f nought) d (point_at_t q nought) (spot_in seen).xy (spot_in seen).dir none

  share : NoMore (share_of w d off.spot.dir) (sums_of g 1)
  share = first_share g (λ j less. term_plus f q k.stages k.shown.seen k.written j (omega arith)) term_fits least

  not_less : Beyond (measure_of row s0 s1 q) (fallen_of row s0 s1 q) base limit
  unfolding measure_of fallen_of
  not_less =
      let m = measure_functor_of s0 s1 q in
      told row m k.stages k.written k.shown (share_of w d off.spot.dir) base limit off.most
      (λ h. still_less limit (above_plus base off.above) share (falls row m k.stages k.written k.shown 1 base limit (omega arith) off.above h))

pub turned_off : {row : List (List Float)} {s0 base limit w : Float} {q : Quad} → Off row s0 (deriv_of (arclen_functor_of q) nought) w base limit → Turned row s0 q base limit
turned_off off = record { over = not_less off }
