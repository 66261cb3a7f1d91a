-- The speeds of a straight piece have one square at all times that are numbers, as those of ten steps are. Assumes nothing.
use Prim.Native.Nat.{ℕ, ◌+◌, ◌*◌, ◌<◌, ◌≤◌}
use mathlib.Core.Bool.{true, false}
use mathlib.Core.List.{List}
use mathlib.Core.Path.{◌≡◌, refl, sym, ◌∙◌}
use native.Mathlib.Nat.{mul-mul-mul_comm, mul-pos}
use native.Mathlib.Omega.{arith}
use lib.Dec.{T}
use lib.IntN.{ℤ}
use lib.Ieee.{Float, nan, inf, fin, binary64, up, down, fits, round, add, sub, mul, of_bits}
use lib.Ieee.Fits.{down_pos, sub-fits}
use lib.Ieee.Scale.{finite, round_same}
use Rattle.float.specs.Numbers.{nought}
use Rattle.float.specs.Float.{root_of}
use Rattle.float.proofs.Zeros.{IsZero, is_zero, is_nought, times_zero, Level, one_sign, zeros, plus_zero}
use Rattle.geometry.specs.Geometry.{along_of, squares, square_norm_of}
use Rattle.arclen.specs.Arclen.{tenth, hundredth, deriv_of, speed_of}
use Rattle.quickarclen.specs.Stages.{time_at, time_from, place_at, Ready, SameSpeeds}
use Rattle.quickarclen.specs.Straight.{Unmoved, Straight}
use Rattle.arclen.specs.declared.ArclenFunctor.{ArclenFunctor}
use Rattle.quickarclen.proofs.Times.{middle, end, times, places_finite}

-- ---- a value and a zero have the square of the value
crossed : (M E N D : ℕ) → M * D ≡ N * E → M * M * (D * D) ≡ N * N * (E * E)
crossed M E N D h = mul-mul-mul_comm M M D D ∙ rw h (mul-mul-mul_comm N E N E)

rounded : (m n : ℕ) (e d : ℤ) → m * up e * down d ≡ n * up d * down e →
    round binary64 false (m * up e * (m * up e)) (down e * down e) ≡ round binary64 false (n * up d * (n * up d)) (down d * down d)
rounded m n e d h =
    round_same binary64 false (m * up e * (m * up e)) (down e * down e) (n * up d * (n * up d)) (down d * down d) (mul-pos (down_pos e) (down_pos e))
    (mul-pos (down_pos d) (down_pos d)) (crossed (m * up e) (down e) (n * up d) (down d) h)

level_square : {x y : Float} → Level x y → mul binary64 x x ≡ mul binary64 y y
unfolding mul
level_square (one_sign true m n e d h) = rounded m n e d h
level_square (one_sign false m n e d h) = rounded m n e d h
level_square (zeros (is_zero true) (is_zero true)) = refl
level_square (zeros (is_zero true) (is_zero false)) = refl
level_square (zeros (is_zero false) (is_zero true)) = refl
level_square (zeros (is_zero false) (is_zero false)) = refl

more_square : (x : Float) {z : Float} → T (fits binary64 x) → IsZero z → mul binary64 (add binary64 x z) (add binary64 x z) ≡ mul binary64 x x
more_square nan f z = unfold add in refl
more_square (inf s) f (is_zero t) = unfold add in refl
more_square (fin s m e) f z = level_square (plus_zero (fin s m e) f tt z)

unmoved_square : {a b : Float} (t : Float) → Unmoved a b → T (finite t) → mul binary64 (along_of a b t) (along_of a b t) ≡ mul binary64 a a
unmoved_square {a} {b} t s h = more_square a s.whole (times_zero t h (is_nought (sub binary64 b a) (sub-fits binary64 b a) s.none))

same_square : (f : ArclenFunctor) (t : Float) → Straight f → T (finite t) → square_norm_of (deriv_of f t) ≡ squares f.dx0 f.dy0
unfolding deriv_of
same_square f t s h = rw (unmoved_square t s.across h, unmoved_square t s.upward h)

-- ---- so in each of ten steps one square, and one root, serves its start, middle and end
abbrev square_at : ArclenFunctor → Float → Float
square_at f t = square_norm_of (deriv_of f t)

pub record OneSquare (f : ArclenFunctor) (t : Float) : Type 0 where
  pub first : square_at f t ≡ square_at f nought
  pub half : square_at f (middle t) ≡ square_at f nought
  pub last : square_at f (end t) ≡ square_at f nought

as_first : (f : ArclenFunctor) → Straight f → (t : Float) → T (finite t) → square_at f t ≡ square_at f nought
as_first f s t h = same_square f t s h ∙ sym (same_square f nought s (unfold of_bits in tt))

pub one_square : (f : ArclenFunctor) → Straight f → (i : ℕ) → i < 10 → OneSquare f (time_at tenth i)
one_square f s i less =
    let t = times i less in
    let same = as_first f s in
    record { first = same (time_at tenth i) t.start_finite; half = same (middle (time_at tenth i)) t.middle_finite; last = same (end (time_at tenth i)) t.end_finite }

pub record OneSpeed (f : ArclenFunctor) (v t : Float) : Type 0 where
  pub first : v ≡ speed_of f t
  pub half : v ≡ speed_of f (middle t)
  pub last : v ≡ speed_of f (end t)

pub one_speed : {f : ArclenFunctor} {v t : Float} {i : ℕ} → Straight f → v ≡ root_of (square_at f nought) → i < 10 → t ≡ time_at tenth i → OneSpeed f v t
unfolding speed_of
one_speed {f} {v} {t} {i} s e less time =
    let o = one_square f s i less in
    record { first = rw (time, o.first) e; half = rw (time, o.half) e; last = rw (time, o.last) e }

-- ---- and it serves all hundred steps between samples
speed_first : (f : ArclenFunctor) → Straight f → (t : Float) → T (finite t) → speed_of f nought ≡ speed_of f t
unfolding speed_of
speed_first f s t h = rw (as_first f s t h)

pub straight_ready : {f : ArclenFunctor} {v : List Float} → Straight f → SameSpeeds f nought v → (m : ℕ) → m ≤ 90 →
    Ready f hundredth (time_from hundredth nought m) v 0
straight_ready {f} {v} s same m few =
    record {
      is = λ k less.
          let all : 2 * 0 + k ≡ k = omega arith in
          let low : k < 21 = omega arith in
          rw all (same.is k low ∙ speed_first f s (place_at hundredth (time_from hundredth nought m) k) (places_finite m few k low));
    }
