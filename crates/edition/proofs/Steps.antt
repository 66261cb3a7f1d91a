-- What an edition makes of the optimiser's result. Assumes nothing.
use Rattle.std.specs.Prelude.{Option, Some, None, Result, Ok, Err}
use Rattle.refusals.specs.declared.refusal.Refusal.TheVariants.{TooManyBreaks, PastLastSample}
use Rattle.refusals.specs.declared.refusal.Refusal.{Refusal}
use Prim.Native.Nat.{ℕ, min, ◌/◌, ◌<◌, ◌≤◌}
use mathlib.Core.List.{List}
use mathlib.Core.Path.{◌≡◌, refl, sym, ap, subst, ◌∙◌}
use borrow.Author.Tests.{lt-ltb, le-ltb}
use lib.Ieee.{Float}
use lib.ListN.{length}
use lib.Seq.{take-length}
use native.Mathlib.Nat.{le_refl}
use Rattle.breaks.specs.Breaks.{Row}
use Rattle.samples.specs.Samples.{Sample}
use Rattle.optimize.specs.Optimize.{Optimised, solved, measure_by, optimize_of}
use Rattle.optimize.specs.Stored.{Anywhere, Holds, Solves, lost, stays, found}
use Rattle.optimize.specs.declared.Solved as S
use Rattle.optimize.specs.declared.Solved.TheVariants as Solved
use Rattle.edition.specs.Edition as E
use Rattle.edition.specs.Edition.{answer_room, result_of, fell_in, edition_of, FoundBreaks, Works}
use Rattle.edition.specs.declared.Worked as D
use Rattle.edition.specs.declared.Worked.TheVariants as Worked

abbrev pub worked_by : ℕ → Option S.Solved → Result D.Worked Refusal
worked_by n None = Err PastLastSample
worked_by n (Some (Solved.Unchanged t)) = Ok (Worked.Unchanged t)
worked_by n (Some (Solved.Done k t)) = Ok (Worked.Done n k t)

module _ (samples : List Sample) (breaks : Row) (penalty : Float) (fine : FoundBreaks breaks) {answers : List (List Float)} {links : List ℕ} where
  solved_works : {o : Optimised} {c : ℕ} {r s : Option S.Solved} → optimize_of (measure_by samples breaks) breaks penalty ≡ o → Solves breaks answers links o c r → r ≡ s →
      Works penalty breaks answers links (result_of c o) (worked_by (length breaks) s)
  solved_works is (lost e) h = E.no (ap (worked_by (length breaks)) (sym h ∙ e))
  solved_works is (stays e) h = E.stays (ap (worked_by (length breaks)) (sym h ∙ e))
  solved_works is (found {k = k} {p = p} {a = a} e held) h =
      let all = sym (take-length breaks) in
      E.holds
      samples
      (ap (worked_by (length breaks)) (sym h ∙ e))
      (le_refl (length breaks))
      (subst FoundBreaks all fine)
      (subst (λ (b : Row). optimize_of (measure_by samples b) b penalty ≡ solved a p) all is)
      (subst (λ (b : Row). Holds Anywhere b answers links k a) all held)

module _ (answers links : ℕ) (samples : List Sample) (breaks : Row) (penalty : Float) where
  pub short : {half : ℕ} → half ≡ min answers links → half / 2 < length breaks → edition_of answers links samples breaks penalty ≡ E.refused TooManyBreaks
  unfolding edition_of
  short {half} e h = rw (lt-ltb (answer_room answers links) (length breaks) (subst (λ (k : ℕ). k / 2 < length breaks) e h)) refl

  pub edited : FoundBreaks breaks → {half : ℕ} → half ≡ min answers links → length breaks ≤ half / 2 → {answers' : List (List Float)} {links' : List ℕ} {r s : Option S.Solved} →
      Solves breaks answers' links' (optimize_of (measure_by samples breaks) breaks penalty) (fell_in samples breaks penalty) r → r ≡ s →
      Works penalty breaks answers' links' (edition_of answers links samples breaks penalty) (worked_by (length breaks) s)
  unfolding edition_of
  edited fine {half} e h sv is =
      rw (le-ltb (answer_room answers links) (length breaks) (subst (λ (k : ℕ). length breaks ≤ k / 2) e h)) (solved_works samples breaks penalty fine refl sv is)
