-- What reading leaves, from what each step gives. Assumes nothing.
use Prim.Native.Nat.{ℕ}
use mathlib.Core.List.{List}
use mathlib.Core.Path.{◌≡◌, ap, ◌∙◌}
use Rattle.std.specs.Prelude.{Option, is_some, Result}
use Rattle.refusals.specs.declared.refusal.Refusal.{Refusal}
use lib.IntN.{ℤ}
use lib.ListN.{length, replicate}
use Rattle.gliftext.specs.Pick.{pick}
use Rattle.glif.specs.Scan.{Judged, judged, judged_of}
use Rattle.glif.specs.declared.scan.Totals.{Totals}
use Rattle.glifread.specs.Enter.{no_place, rows, filled, enter_all}
use Rattle.glifread.specs.Reads.{refusal, answer_of, kept, rooms_of, answer_by, left_by}
use Rattle.glifread.specs.declared.read.Counts.{Counts}

module _ (bytes ends : List ℕ) (xs ys : List ℤ) (fs : List ℕ) (p₀ : List (List ℕ))
    {p₁ p₂ p₃ : List (List ℕ)} {f : Totals} {k : Option Refusal} {n : ℕ} {ends' : List ℕ} {xs' ys' : List ℤ} {fs' : List ℕ} {r : Result Counts Refusal}
    (cleared : p₁ ≡ replicate (length p₀) no_place) (found : judged f p₂ ≡ judged_of bytes p₁) (size : length p₂ ≡ length p₀)
    (refused : k ≡ refusal f (length ends) (length xs) (length ys) (length fs) (length p₂)) (many : n ≡ pick (is_some k) 0 f.contours)
    (entered : filled ends' (rows xs' ys' fs') ≡ enter_all p₂ f.points n (filled ends (rows xs ys fs))) (zero : p₃ ≡ replicate (length p₂) no_place)
    (answer : r ≡ answer_of f k) where
  file : judged f p₂ ≡ judged_of bytes (replicate (length p₀) no_place)
  file = found ∙ ap (judged_of bytes) cleared

  refusal_is : k ≡ refusal f (length ends) (length xs) (length ys) (length fs) (length p₀)
  refusal_is = refused ∙ ap (refusal f (length ends) (length xs) (length ys) (length fs)) size

  contours : n ≡ pick (is_some (refusal f (length ends) (length xs) (length ys) (length fs) (length p₀))) 0 f.contours
  contours = many ∙ ap (λ (o : Option Refusal). pick (is_some o) 0 f.contours) refusal_is

  pub read_answer : r ≡ answer_by (judged_of bytes (replicate (length p₀) no_place)) (rooms_of (kept (filled ends (rows xs ys fs)) p₀))
  read_answer = answer ∙ ap (answer_of f) refusal_is ∙ ap (λ (j : Judged). answer_by j (rooms_of (kept (filled ends (rows xs ys fs)) p₀))) file

  pub read_left : kept (filled ends' (rows xs' ys' fs')) p₃
      ≡ left_by (judged_of bytes (replicate (length p₀) no_place)) (rooms_of (kept (filled ends (rows xs ys fs)) p₀)) (kept (filled ends (rows xs ys fs)) p₀)
  read_left =
      (λ i. kept ((entered ∙ ap (λ (m : ℕ). enter_all p₂ f.points m (filled ends (rows xs ys fs))) contours) i)
      ((zero ∙ ap (λ (m : ℕ). replicate m no_place) size) i))
      ∙ ap (λ (j : Judged). left_by j (rooms_of (kept (filled ends (rows xs ys fs)) p₀)) (kept (filled ends (rows xs ys fs)) p₀)) file
