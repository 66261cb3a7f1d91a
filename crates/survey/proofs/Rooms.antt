-- A row that is lent up to its room: what is found in its first places is found in the row. Assumes nothing.
use Rattle.std.specs.Prelude.{Option, Some, None, Result, Ok, Err}
use Rattle.refusals.specs.declared.refusal.Refusal.{Refusal}
use Prim.Native.Nat.{ℕ, min, ◌≤◌}
use Rattle.std.specs.Prelude.{Option, Some, Result, Ok}
use mathlib.Core.List.{List, ◌++◌}
use mathlib.Core.Path.{◌≡◌, refl, sym, ap, ◌∙◌}
use native.Mathlib.Omega.{arith}
use lib.IntN.{ℤ}
use lib.Ieee.{Float}
use lib.ListN.{length, take, length-append, length-take}
use lib.Seq.{length-take-le, take-length, take-append-le, take-take}
use Rattle.breaks.specs.Breaks.{Row, breaks_of, breaks_in, count_found}
use Rattle.breaks.specs.declared.Stopped.{Stopped}
use Rattle.breaks.specs.declared.Grid.{Grid}
use Rattle.samples.specs.Samples.{Sample, thetas_of, quads_of, run_in, places_sampled}
use Rattle.samples.specs.declared.Thetas.{Thetas}
use Rattle.survey.specs.Survey.{Survey, sample_room, break_room, surveyed, searched, after_sampling, survey_of, survey_in, samples_used}
use Rattle.survey.specs.declared.Surveyed as S

-- the room of a row, as the first places of the row have it
pub room_is : {A : Type 0} (k : ℕ) (row : List A) (room : ℕ) → room ≡ min k (length row) → room ≡ length (take room row)
room_is k row room e = sym (length-take-le room row (omega (arith, e)))

module _ (samples : List Sample) (row : Row) (g : Grid) (len : Float) (room : ℕ) (is : room ≡ break_room (length row)) (sub : Row) {r s : Result ℕ Stopped}
    (e : breaks_of (length (take room row)) samples g len ≡ breaks_in sub r) (h : r ≡ s) where
  pub searched_as : searched samples (breaks_of (break_room (length row)) samples g len) ≡ searched samples (breaks_in sub s)
  searched_as =
      ap (λ (k : ℕ). searched samples (breaks_of k samples g len)) (sym is ∙ room_is 2048 row room is) ∙ ap (searched samples) (e ∙ ap (breaks_in sub) h)

-- so many breaks, in the row as in its first places
pub searched_found : (samples : List Sample) (sub rest : Row) (n : ℕ) {k : ℕ} {x : Survey} → n ≤ k → length sub ≡ k → x ≡ surveyed samples (take n sub) →
    x ≡ surveyed (take (length samples) samples) (take n (sub ++ rest))
searched_found samples sub rest n few kept e = e ∙ rw (take-length samples, take-append-le n sub rest (omega arith)) refl

pub count_found_lem : {r : Result ℕ Stopped} {n k : ℕ} → r ≡ Ok n → count_found r ≤ k → n ≤ k
count_found_lem e h = rw e at h

pub count_sampled : {r : Option Thetas} {t : Thetas} {k : ℕ} → r ≡ Some t → places_sampled r ≤ k → t.count ≤ k
count_sampled e h = rw e at h

module _ (xs ys : List ℤ) (fs : List ℕ) (first count breakRow : ℕ) (g : Grid) (row : List Sample) (room : ℕ) (is : room ≡ sample_room (length row)) (sub : List Sample) {r s : Option Thetas}
    (e : thetas_of (length (take room row)) (quads_of xs ys fs first count) ≡ run_in sub r) (h : r ≡ s) where
  pub surveyed_as : survey_of (length row) breakRow xs ys fs first count g ≡ after_sampling (break_room breakRow) g (run_in sub s)
  unfolding survey_of
  surveyed_as =
      ap (λ (k : ℕ). after_sampling (break_room breakRow) g (thetas_of k (quads_of xs ys fs first count))) (sym is ∙ room_is 16384 row room is)
      ∙ ap (after_sampling (break_room breakRow) g) (e ∙ ap (run_in sub) h)

-- a survey of the first n samples is one of all
pub of_first : (samples : List Sample) (breaks : Row) (n : ℕ) (r : Result (Option S.Surveyed) Refusal) → samples_used r ≤ length (take n samples) →
    survey_in (take n samples) breaks r ≡ survey_in samples breaks r
of_first samples breaks n (Err k) h = refl
of_first samples breaks n (Ok None) h = refl
of_first samples breaks n (Ok (Some s)) h =
    ap (λ (l : List Sample). surveyed l (take s.breaks breaks)) (take-take s.samples n samples (omega (arith, h, length-take n samples)))

-- the first n of a row that is lent up to its room, and the rest
pub within_all : {A : Type 0} (sub rest : List A) (n k : ℕ) → n ≤ k → length sub ≡ k → n ≤ length (sub ++ rest)
within_all sub rest n k few kept = omega (arith, length-append sub rest)

pub first_are : {A : Type 0} (sub rest : List A) (n k : ℕ) → n ≤ k → length sub ≡ k → n ≡ length (take n (sub ++ rest))
first_are sub rest n k few kept = sym (length-take-le n (sub ++ rest) (within_all sub rest n k few kept))

pub sampled_first : (g : Grid) (len : Float) (breakRow : ℕ) (sub rest : List Sample) (n : ℕ) {k : ℕ} {x y : Survey} → n ≤ k → length sub ≡ k →
    x ≡ after_sampling (break_room breakRow) g (run_in sub (Some (record { count = n; length = len }))) →
    searched (take n (sub ++ rest)) (breaks_of (break_room breakRow) (take n (sub ++ rest)) g len) ≡ y → x ≡ y
sampled_first g len breakRow sub rest n few kept e f =
    e ∙ ap (λ (l : List Sample). searched l (breaks_of (break_room breakRow) l g len)) (sym (take-append-le n sub rest (omega arith))) ∙ f
