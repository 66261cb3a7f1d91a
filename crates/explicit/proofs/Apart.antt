-- Points of which no two that follow each other are off-curve: what is put in leaves such points, and puts nothing in between them. Assumes nothing.
use mathlib.Core.Bool.{Bool, true, false, not, ◌&&◌, ◌||◌, true≢false}
use mathlib.Core.List.{List, [], ◌∷◌, ◌++◌, map}
use mathlib.Core.Path.{◌≡◌, refl, ap}
use lib.IntN.{ℤ}
use Rattle.refusals.specs.Refusals.{is_on, off_neighbours}
use Rattle.contour.specs.Points.{Points}
use Rattle.contour.specs.Implied.{off_curve}
use Rattle.contour.specs.Output.{flag_of, flag_if, flags}
use Rattle.explicit.specs.Explicit.{both_off, only_if, after, put_in, implied_point, itself}

-- after the point p
pub data Apart : List ℤ → Points → Type 0 where
  none : {p : List ℤ} → Apart p []
  next : {p q : List ℤ} {qs : Points} → both_off p q ≡ false → Apart q qs → Apart p (q ∷ qs)

-- nothing is put between such points
pub nothing_between : (between : List ℤ → List ℤ → List ℤ) (shown : List ℤ → List ℤ) {p : List ℤ} {ps : Points} → Apart p ps →
    after between shown p ps ≡ map shown ps
unfolding after
nothing_between between shown none = refl
nothing_between between shown (next {q = q} h a) = rw h (ap (λ (l : Points). shown q ∷ l) (nothing_between between shown a))

pub as_they_are : (p : List ℤ) (ps : Points) (between : List ℤ → List ℤ → List ℤ) (shown : List ℤ → List ℤ) → Apart p ps →
    put_in between shown (p ∷ ps) ≡ map shown (p ∷ ps)
unfolding put_in
as_they_are p ps between shown a = ap (λ (l : Points). shown p ∷ l) (nothing_between between shown a)

-- what is put in is on-curve, so that what is written is apart
and-false : (a : Bool) → (a && false) ≡ false
and-false true = refl
and-false false = refl

pub put_apart : (p : List ℤ) (ps : Points) → Apart p (after implied_point itself p ps)
unfolding after
put_apart p [] = none
put_apart p (q ∷ qs) = by (both_off p q) refl (put_apart q qs)
  where
    by : (t : Bool) → both_off p q ≡ t → Apart q (after implied_point itself q qs) → Apart p (only_if t (implied_point p q) ++ (q ∷ after implied_point itself q qs))
    by true e a = next (and-false (off_curve p)) (next refl a)
    by false e a = next e a

-- ---- by the flags

on_flag_lem : (p : List ℤ) → not (is_on (flag_of p)) ≡ off_curve p
on_flag_lem p = by (off_curve p)
  where
    by : (t : Bool) → not (is_on (flag_if t)) ≡ t
    by true = refl
    by false = refl

pub apart_flags : {p : List ℤ} {ps : Points} → Apart p ps → off_neighbours (flags (p ∷ ps)) ≡ false
unfolding off_neighbours
apart_flags none = refl
apart_flags (next {p = p} {q = q} h a) = rw (on_flag_lem p, on_flag_lem q, h) (apart_flags a)

neither : (a b : Bool) → (a || b) ≡ false → (a ≡ false) × (b ≡ false)
neither true b h = absurd (true≢false h)
neither false b h = (refl, h)

pub flags_apart : (p : List ℤ) (ps : Points) → off_neighbours (flags (p ∷ ps)) ≡ false → Apart p ps
unfolding off_neighbours
flags_apart p [] h = none
flags_apart p (q ∷ qs) h =
    let both = neither (both_off p q) (off_neighbours (flags (q ∷ qs))) (rw (on_flag_lem p, on_flag_lem q) at h) in
    next both.0 (flags_apart q qs both.1)
