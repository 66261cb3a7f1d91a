-- Nothing is rounded where a cubic is halved, its third difference taken and its control worked out: the code's numbers are those of
-- specs/Cubic.antt. So of points of 16 bits every part is exact: `parts_exact`. Assumes nothing.
use Prim.Native.Nat.{ℕ, zero, suc, ◌+◌, ◌*◌, ◌^◌, ◌≤◌}
use mathlib.Core.Bool.{Bool, true, false}
use mathlib.Core.List.{List, [], ◌∷◌}
use mathlib.Core.Path.{◌≡◌, refl, ap, ◌∙◌}
use native.Mathlib.Nat.{one-mul, mul-one, mul_comm, mul_assoc, mul_right_comm, mul-le-mul_left, one-le-pow, pow-succ', le_refl, le_of_suc-le-suc}
use native.Mathlib.Omega.{arith}
use lib.Dec.{ltb, lit≤}
use lib.Pow.{pow_pos}
use lib.IntN.{ℤ, pos, negsuc, ◌+ℤ◌}
use lib.ListN.{length}
use lib.Ieee.{Float, nan, inf, fin, binary64, up, down, lt, of_bits}
use lib.Ieee.Exact.{HasValue}
use lib.Ieee.Fits.{down_pos}
use Rattle.float.specs.Numbers.{half, three}
use Rattle.float.specs.Float.{abs_of}
use Rattle.halving.specs.Cubic.{Four, Curve, times, mid, mid01, mid12, mid23, mid012, mid123, middle, first_half, second_half, first_part, second_part, third_difference, is_bent, bent, control}
use Rattle.float.specs.Dyadic.{Exact}
use Rattle.halving.specs.Exact.{ExactAxis, ExactCubic, Roomy, Reach}
use Rattle.halving.specs.Steps.{quarter, mid_of, p012_of, p123_of, first_of, second_of, third_of, bent_of, control_of, first_cubic, second_cubic, bent_cubic}
use Rattle.halving.specs.Statements.{part_along, cubic_along, ExactPart, ExactParts, PartsAreExact}
use Rattle.halving.specs.declared.Axis.{Axis}
use Rattle.halving.specs.declared.Cubic.{Cubic}
use Rattle.float.proofs.Dyadic.{size_of, add_exact, sub_exact, mul_exact, finer, looser}
use Rattle.halving.proofs.Rounding.{ltb_cross}

one_times : (z : ℤ) → times 1 z ≡ z
one_times (pos n) = rw one-mul
one_times (negsuc n) = rw one-mul

-- an equal unit, a greater bound
like : {x : Float} {z : ℤ} {e b : ℕ} (e' b' : ℕ) → e ≡ e' → b ≤ b' → Exact x z e b → Exact x z e' b'
like {x} {z} {e} {b} e' b' p h v = rw (← p) (looser b' h v)

-- ---- the constants

half_is : HasValue half false 1 (2 ^ 1)
unfolding of_bits
half_is = (refl, refl)

quarter_is : HasValue quarter false 1 (2 ^ 2)
unfolding of_bits
quarter_is = (refl, refl)

three_is : HasValue three false 3 (2 ^ 0)
unfolding of_bits
three_is = (refl, refl)

thrice : {x : Float} {z : ℤ} {e b : ℕ} → e ≤ 1000 → b ≤ 2 ^ 44 → Exact x z e b → Exact (lib.Ieee.mul binary64 x three) (times 3 z) e (3 * b)
thrice {x} {z} {e} {b} low few v = like e (3 * b) (omega arith) (le_refl (3 * b)) (mul_exact three 3 0 three_is (omega arith) (omega arith) v)

-- ---- midpoints

pub mid_exact : {x y : Float} {z w : ℤ} {e b : ℕ} → e ≤ 1002 → b ≤ 2 ^ 44 → Exact x z e b → Exact y w e b → Exact (mid_of x y) (mid z w) (e + 1) (2 * b)
unfolding mid_of
mid_exact {x} {y} {z} {w} {e} {b} low few v u =
    rw (← one_times (z +ℤ w))
    (like (e + 1) (2 * b) refl (omega arith) (mul_exact half 1 1 half_is (omega arith) (omega arith) (add_exact (omega arith) (omega arith) v u)))

module _ {a : Axis} {f : Four} {e b : ℕ} (room : Roomy e b) (v : ExactAxis a f e b) where
  m01 : Exact (mid_of a.p0 a.p1) (mid01 f) (e + 1) (2 * b)
  m01 = mid_exact (omega (arith, room.low)) (omega (arith, room.few)) v.p0 v.p1

  m12 : Exact (mid_of a.p1 a.p2) (mid12 f) (e + 1) (2 * b)
  m12 = mid_exact (omega (arith, room.low)) (omega (arith, room.few)) v.p1 v.p2

  m23 : Exact (mid_of a.p2 a.p3) (mid23 f) (e + 1) (2 * b)
  m23 = mid_exact (omega (arith, room.low)) (omega (arith, room.few)) v.p2 v.p3

  m012 : Exact (p012_of a) (mid012 f) (e + 2) (4 * b)
  m012 = like (e + 2) (4 * b) (omega arith) (omega arith) (mid_exact (omega (arith, room.low)) (omega (arith, room.few)) m01 m12)

  m123 : Exact (p123_of a) (mid123 f) (e + 2) (4 * b)
  m123 = like (e + 2) (4 * b) (omega arith) (omega arith) (mid_exact (omega (arith, room.low)) (omega (arith, room.few)) m12 m23)

  met : Exact (mid_of (p012_of a) (p123_of a)) (middle f) (e + 3) (8 * b)
  met = like (e + 3) (8 * b) (omega arith) (omega arith) (mid_exact (omega (arith, room.low)) (omega (arith, room.few)) m012 m123)

  pub first_exact : ExactAxis (first_of a) (first_half f) (e + 3) (8 * b)
  unfolding first_of
  first_exact = record {
    p0 = finer 3 v.p0;
    p1 = like (e + 3) (8 * b) (omega arith) (omega arith) (finer 2 m01);
    p2 = like (e + 3) (8 * b) (omega arith) (omega arith) (finer 1 m012);
    p3 = met;
  }

  pub second_exact : ExactAxis (second_of a) (second_half f) (e + 3) (8 * b)
  unfolding second_of
  second_exact = record {
    p0 = met;
    p1 = like (e + 3) (8 * b) (omega arith) (omega arith) (finer 1 m123);
    p2 = like (e + 3) (8 * b) (omega arith) (omega arith) (finer 2 m23);
    p3 = finer 3 v.p3;
  }

  -- ---- the third difference and the control

  pub third_exact : Exact (third_of a) (third_difference f) e (b + 3 * b + 3 * b + b)
  unfolding third_of
  third_exact =
      let low = room.low in
      let few = room.few in
      let c2 = thrice (omega arith) (omega arith) v.p2 in
      let c1 = thrice (omega arith) (omega arith) v.p1 in
      sub_exact (omega arith) (omega arith) (add_exact (omega arith) (omega arith) (sub_exact (omega arith) (omega arith) v.p3 c2) c1) v.p0

  pub control_exact : Exact (control_of a) (control f) (e + 2) (8 * b)
  unfolding control_of
  control_exact =
      let low = room.low in
      let few = room.few in
      let c2 = thrice (omega arith) (omega arith) v.p2 in
      let c1 = thrice (omega arith) (omega arith) v.p1 in
      let whole = sub_exact (omega arith) (omega arith) (sub_exact (omega arith) (omega arith) (add_exact (omega arith) (omega arith) c1 c2) v.p0) v.p3 in
      rw (← one_times (control f)) (like (e + 2) (8 * b) refl (omega arith) (mul_exact quarter 1 2 quarter_is (omega arith) (omega arith) whole))

-- ---- the test

over_eight : (x : Float) (s : Bool) (n e : ℕ) → HasValue x s n (2 ^ e) → lt (fin false 1 (pos 3)) (abs_of x) ≡ ltb (8 * 2 ^ e) n
unfolding lt abs_of
over_eight nan s n e v = absurd v
over_eight (inf t) s n e v = absurd v
over_eight (fin t m c) s n e v =
    ltb_cross (1 * 2 ^ 3 * down c) (m * up c * 1) (8 * 2 ^ e) n (2 ^ e) (down c) (pow_pos e) (down_pos c)
    (mul_right_comm 8 (down c) (2 ^ e))
    (ap (λ (k : ℕ). k * 2 ^ e) (mul-one (m * up c)) ∙ v.1)

pub bent_exact : {a : Axis} {f : Four} {e b : ℕ} → Roomy e b → ExactAxis a f e b → bent_of a ≡ is_bent e f
unfolding bent_of of_bits
bent_exact {a} {f} {e} {b} room v =
    let d = third_exact room v in
    over_eight (third_of a) d.sign d.size e d.value ∙ ap (ltb (8 * 2 ^ e)) (size_of d)

-- ---- both coordinates

module _ {a : Cubic} {c : Curve} {e b : ℕ} (room : Roomy e b) (v : ExactCubic a c e b) where
  pub first_part_lem : ExactCubic (first_cubic a) (first_part c) (e + 3) (8 * b)
  first_part_lem = record { x = first_exact room v.x; y = first_exact room v.y }

  pub second_part_lem : ExactCubic (second_cubic a) (second_part c) (e + 3) (8 * b)
  second_part_lem = record { x = second_exact room v.x; y = second_exact room v.y }

  pub bent_part : bent_cubic a ≡ bent e c
  bent_part = rw (bent_exact room v.x, bent_exact room v.y)

-- ---- in reach

pub reach_roomy : {left e b : ℕ} → Reach left e b → Roomy (e + 2) (8 * b)
reach_roomy {left} {e} {b} h =
    let more : b * 1 ≤ b * 8 ^ left = mul-le-mul_left b (one-le-pow left 8 (lit≤ tt)) in
    record { low = omega (arith, h.low); few = omega (arith, h.few) }

pub roomy_less : {e b : ℕ} → Roomy (e + 2) (8 * b) → Roomy e b
roomy_less {e} {b} h = record { low = omega (arith, h.low); few = omega (arith, h.few) }

pub reach_less : {left e b : ℕ} → Reach (suc left) e b → Reach left (e + 3) (8 * b)
reach_less {left} {e} {b} h = record {
  low = omega (arith, h.low);
  few = rw (mul_comm 8 b, mul_assoc b 8 (8 ^ left), ← pow-succ' 8 left) h.few;
}

-- five halvings from points of 16 bits
pub reach_five : Reach 5 0 (2 ^ 15)
reach_five = record { low = lit≤ tt; few = lit≤ tt }

-- ---- every part

-- one coordinate of it
module _ {a : Axis} {f : Four} {left e b : ℕ} (reach : Reach left e b) (v : ExactAxis a f e b) where
  most : b ≤ 2 ^ 30
  most = let more : b * 1 ≤ b * 8 ^ left = mul-le-mul_left b (one-le-pow left 8 (lit≤ tt)) in omega (arith, reach.few)

  exact_part : ExactPart a f e
  exact_part =
      let room = roomy_less (reach_roomy reach) in
      record {
        points = record { p0 = looser _ most v.p0; p1 = looser _ most v.p1; p2 = looser _ most v.p2; p3 = looser _ most v.p3 };
        third = looser _ (omega (arith, most)) (third_exact room v);
        over_four = looser _ (omega (arith, most)) (control_exact room v);
        test = bent_exact room v;
      }

further : {a : Cubic} {c : Curve} (e n : ℕ) → ExactParts a c (e + 3 + 3 * n) → ExactParts a c (e + 3 * suc n)
further e n v = let same : e + 3 * suc n ≡ e + 3 + 3 * n = omega arith in rw same v

no_further : {a : Cubic} {c : Curve} (e : ℕ) → ExactParts a c e → ExactParts a c (e + 3 * 0)
no_further e v = let same : e + 3 * 0 ≡ e = omega arith in rw same v

-- with so many halvings to come at most
along : (halves : List Bool) (left e b : ℕ) (a : Cubic) (c : Curve) → length halves ≤ left → Reach left e b → ExactCubic a c e b →
    ExactParts (cubic_along halves a) (part_along halves c) (e + 3 * length halves)
unfolding cubic_along part_along
along [] left e b a c h reach v = no_further e (record { x = exact_part reach v.x; y = exact_part reach v.y })
along (t ∷ halves) zero e b a c h reach v = absurd (omega arith)
along (true ∷ halves) (suc left) e b a c h reach v =
    further e (length halves)
    (along halves left (e + 3) (8 * b) (first_cubic a) (first_part c) (le_of_suc-le-suc h) (reach_less reach) (first_part_lem (roomy_less (reach_roomy reach)) v))
along (false ∷ halves) (suc left) e b a c h reach v =
    further e (length halves)
    (along halves left (e + 3) (8 * b) (second_cubic a) (second_part c) (le_of_suc-le-suc h) (reach_less reach) (second_part_lem (roomy_less (reach_roomy reach)) v))

pub parts_exact : PartsAreExact
parts_exact halves a c h v =
    let same : 3 * length halves ≡ 0 + 3 * length halves = omega arith in
    rw same (along halves 5 0 (2 ^ 15) a c h reach_five v)
