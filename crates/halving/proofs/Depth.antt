-- One halving divides the third difference by exactly 8; points of 16 bits need at most five; so the halvings left never run out, and the
-- depth of a cubic's parts is one number. And how far a quad is from its part. The statements are those of specs/Statements. Assumes nothing.
use Prim.Native.Nat.{ℕ, zero, suc, ◌+◌, ◌*◌, ◌^◌, ◌≤◌, ◌<◌}
use mathlib.Core.Bool.{Bool, true, false}
use mathlib.Core.List.{◌∷◌}
use mathlib.Core.Path.{◌≡◌, refl, ◌∙◌}
use native.Mathlib.Omega.{arith}
use native.Mathlib.Nat.{le_of_suc-le-suc, pow-succ'}
use borrow.Author.Tests.{le-ltb, ltb-true, ltb-false}
use lib.Dec.{ltb}
use lib.IntN.{ℤ, nat_abs, ◌+ℤ◌, ◌-ℤ◌}
use lib.ListN.{length-append}
use Rattle.halving.specs.Cubic.{Four, Curve, times, first_half, second_half, first_part, second_part, third_difference, bent, control, start_point, between}
use Rattle.halving.specs.Depth.{all_halved}
use Rattle.halving.specs.Statements.{DividesByEight, SixteenBits, OneDepth, PointsBetween, QuadsAreNear}
use Rattle.halving.proofs.Linear.{Gap, plus, minus, fold, gap_of, same, size_gap, gap_from, sixteen}

-- ---- an eighth: the halves count in eighths of the unit, and there their third difference is the same number

module _ {p0 p1 p2 p3 : ℤ} (a : Gap p0) (b : Gap p1) (c : Gap p2) (d : Gap p3) where
  abbrev third : Gap (p3 -ℤ times 3 p2 +ℤ times 3 p1 -ℤ p0)
  third = minus (plus (minus d (fold 3 c)) (fold 3 b)) a

  abbrev over : Gap (times 3 p1 +ℤ times 3 p2 -ℤ p0 -ℤ p3)
  over = minus (minus (plus (fold 3 b) (fold 3 c)) a) d

  abbrev middle_gap : Gap (((p0 +ℤ p1) +ℤ (p1 +ℤ p2)) +ℤ ((p1 +ℤ p2) +ℤ (p2 +ℤ p3)))
  middle_gap = plus (plus (plus a b) (plus b c)) (plus (plus b c) (plus c d))

first_eighth : (f : Four) → third_difference (first_half f) ≡ third_difference f
first_eighth f =
    let a = gap_of f.p0 in
    let b = gap_of f.p1 in
    let c = gap_of f.p2 in
    let d = gap_of f.p3 in
    same (third (fold 8 a) (fold 4 (plus a b)) (fold 2 (plus (plus a b) (plus b c))) (middle_gap a b c d)) (third a b c d) (omega arith)

second_eighth : (f : Four) → third_difference (second_half f) ≡ third_difference f
second_eighth f =
    let a = gap_of f.p0 in
    let b = gap_of f.p1 in
    let c = gap_of f.p2 in
    let d = gap_of f.p3 in
    same (third (middle_gap a b c d) (fold 2 (plus (plus b c) (plus c d))) (fold 4 (plus c d)) (fold 8 d)) (third a b c d) (omega arith)

first_bent : (e : ℕ) (c : Curve) → bent e (first_part c) ≡ bent e c
first_bent e c = rw (first_eighth c.x, first_eighth c.y)

second_bent : (e : ℕ) (c : Curve) → bent e (second_part c) ≡ bent e c
second_bent e c = rw (second_eighth c.x, second_eighth c.y)

-- ---- points of 16 bits: at most 262,140, which is less than 8 ^ 6

third_most : {f : Four} → SixteenBits f → nat_abs (third_difference f) ≤ 262140
third_most {f} s =
    let a = sixteen f.p0 s.p0 in
    let b = sixteen f.p1 s.p1 in
    let c = sixteen f.p2 s.p2 in
    let d = sixteen f.p3 s.p3 in
    let g = third (gap_from a) (gap_from b) (gap_from c) (gap_from d) in
    rw (size_gap g) (omega (arith, a.most, b.most, c.most, d.most))

five_enough : {c : Curve} → SixteenBits c.x → SixteenBits c.y → bent 15 c ≡ false
five_enough {c} x y =
    rw (
      le-ltb (8 * 2 ^ 15) (nat_abs (third_difference c.x)) (omega (arith, third_most x)),
      le-ltb (8 * 2 ^ 15) (nat_abs (third_difference c.y)) (omega (arith, third_most y)),
    )

pub divides_by_eight : DividesByEight
divides_by_eight f = record { first = first_eighth f; second = second_eighth f }

-- ---- one depth

evenly : (d left e : ℕ) (c : Curve) → d ≤ left → ((k : ℕ) → k < d → bent (e + 3 * k) c ≡ true) → bent (e + 3 * d) c ≡ false →
    between left e c ≡ all_halved d e c
unfolding between all_halved
evenly zero zero e c h all last = refl
evenly zero (suc left) e c h all last =
    let z : e + 3 * 0 ≡ e = omega arith in
    rw (rw z at last)
evenly (suc d) zero e c h all last = absurd (omega arith)
evenly (suc d) (suc left) e c h all last =
    let z : e + 3 * 0 ≡ e = omega arith in
    let full : bent e c ≡ true = rw z at (all 0 (omega arith)) in
    let on : (k : ℕ) → k < d → bent (e + 3 + 3 * k) c ≡ true = λ k l.
    let q : e + 3 * suc k ≡ e + 3 + 3 * k = omega arith in rw q at (all (suc k) (omega arith)) in
    let end : bent (e + 3 + 3 * d) c ≡ false =
    let q : e + 3 * suc d ≡ e + 3 + 3 * d = omega arith in rw q at last in
    let first = evenly d left (e + 3) (first_part c) (le_of_suc-le-suc h) (λ k l. first_bent (e + 3 + 3 * k) c ∙ on k l) (first_bent (e + 3 + 3 * d) c ∙ end) in
    let second = evenly d left (e + 3) (second_part c) (le_of_suc-le-suc h) (λ k l. second_bent (e + 3 + 3 * k) c ∙ on k l) (second_bent (e + 3 + 3 * d) c ∙ end) in
    rw (full, first, second)

-- the first k from here on at which a test fails, where it fails at the last
abbrev First : (ℕ → Bool) → ℕ → Type 0
First t most = (d : ℕ) × (d ≤ most) × ((j : ℕ) → j < d → t j ≡ true) × (t d ≡ false)

so_far : (t : ℕ → Bool) (k : ℕ) → ((j : ℕ) → j < k → t j ≡ true) → t k ≡ true → (j : ℕ) → j < suc k → t j ≡ true
so_far t k below e j l = by (ltb j k) refl
  where
    by : (b : Bool) → ltb j k ≡ b → t j ≡ true
    by true f = below j (ltb-true j k f)
    by false f =
        let g = ltb-false j k f in
        let q : j ≡ k = omega arith in
        rw q e

first_from : (t : ℕ → Bool) (n k : ℕ) → ((j : ℕ) → j < k → t j ≡ true) → t (k + n) ≡ false → First t (k + n)
first_from t zero k below last = let z : k + 0 ≡ k = omega arith in (k, omega arith, below, rw z at last)
first_from t (suc n) k below last = by (t k) refl (λ e. first_from t n (suc k) (so_far t k below e) (rw z at last))
  where
    z : k + suc n ≡ suc k + n
    z = omega arith

    by : (b : Bool) → t k ≡ b → (t k ≡ true → First t (suc k + n)) → First t (k + suc n)
    by false e later = (k, omega arith, below, e)
    by true e later = rw z (later e)

pub one_depth : OneDepth
one_depth c x y =
    let found = first_from (λ k. bent (3 * k) c) 5 0 (λ j l. absurd (omega arith)) (five_enough x y) in (
      found.0,
      record {
        few = found.1;
        halved = found.2;
        enough = found.3;
        parts = λ left h. evenly found.0 left 0 c h (λ k l. plain k (found.2 k l)) (plain_last found.0 found.3);
      },
    )
  where
    plain : (k : ℕ) → bent (3 * k) c ≡ true → bent (0 + 3 * k) c ≡ true
    plain k h = let z : 0 + 3 * k ≡ 3 * k = omega arith in rw z h

    plain_last : (k : ℕ) → bent (3 * k) c ≡ false → bent (0 + 3 * k) c ≡ false
    plain_last k h = let z : 0 + 3 * k ≡ 3 * k = omega arith in rw z h

pub points_between : PointsBetween
unfolding all_halved
points_between zero e c = refl
points_between (suc d) e c =
    let a = all_halved d (e + 3) (first_part c) in
    let b = all_halved d (e + 3) (second_part c) in
    omega (arith, length-append a (start_point (e + 3) (second_part c) ∷ b), points_between d (e + 3) (first_part c), points_between d (e + 3) (second_part c), pow-succ' 2 d)

-- ---- how far

quad_near_p1 : (f : Four) → times 6 f.p1 -ℤ (times 2 f.p0 +ℤ control f) ≡ third_difference f
quad_near_p1 f =
    let a = gap_of f.p0 in
    let b = gap_of f.p1 in
    let c = gap_of f.p2 in
    let d = gap_of f.p3 in
    same (minus (fold 6 b) (plus (fold 2 a) (over a b c d))) (third a b c d) (omega arith)

quad_near_p2 : (f : Four) → (times 2 f.p3 +ℤ control f) -ℤ times 6 f.p2 ≡ third_difference f
quad_near_p2 f =
    let a = gap_of f.p0 in
    let b = gap_of f.p1 in
    let c = gap_of f.p2 in
    let d = gap_of f.p3 in
    same (minus (plus (fold 2 d) (over a b c d)) (fold 6 c)) (third a b c d) (omega arith)

pub quads_near : QuadsAreNear
quads_near f = record { p1 = quad_near_p1 f; p2 = quad_near_p2 f }
