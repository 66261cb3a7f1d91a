-- One word after the other. Assumes nothing.
use Rattle.std.proofs.Common.{ℕ, suc, ◌+◌, ◌-◌, ◌≤◌, ◌<◌, min, Bool, true, false, cond, List, ◌≡◌, refl, sym, ap, ◌∙◌, arith, leb, length, take, drop, length-drop, drop_of_length-le, drop-drop, Option, Some, None, option_and_then}
use Rattle.lines.specs.Line.{up_to}
use Rattle.lines.specs.Steps.{size_of}
use Rattle.lines.specs.Stream.{ended_by}
use Rattle.lines.proofs.Feeding.{prefix}
use Rattle.lines.proofs.Parts.{next_part, no_part}
use Rattle.lines.proofs.Reading.{cap_test, uncapped}
use Rattle.words.specs.Words.{with_penalty, with_settings, sixteenths, taken, all_taken}
use Rattle.words.specs.declared.Order.{Order}
use Rattle.words.specs.declared.Reading as R
use Rattle.words.specs.declared.Reading.TheVariants.{Has}

-- ---- a penalty

pub capped : (o : Order) (n : Option ℕ) → sixteenths o (size_of n) ≡ sixteenths o n
unfolding size_of sixteenths
capped o None = refl
capped o (Some n) =
    ap (λ (t : Bool). cond t (penalty (min n 4294967296)) None) (cap_test n 4294967295 (omega arith)) ∙ by (leb n 4294967295) refl
  where
    penalty : ℕ → Option R.Reading
    penalty k = Some (Has (with_settings o (with_penalty o.settings k)))

    by : (t : Bool) → leb n 4294967295 ≡ t → cond t (penalty (min n 4294967296)) None ≡ cond t (penalty n) None
    by true e = ap penalty (uncapped n 4294967295 (omega arith) e)
    by false e = refl

-- ---- the words

module _ (r : R.Reading) (row : List ℕ) (at : ℕ) where
  pub next_word : (e : ℕ) → at < length row → e ≡ at + length (up_to 0 (drop at row)) →
      all_taken r (ended_by 0 (drop at row)) ≡ option_and_then (λ r'. all_taken r' (ended_by 0 (drop (e + 1) row))) (taken r (take (e - at) (drop at row)))
  unfolding all_taken
  next_word e inside ends =
      let some : 0 < length (drop at row) = simp length-drop (omega arith) in
      let n : length (up_to 0 (drop at row)) ≡ e - at = omega arith in
      let past : at + suc (length (up_to 0 (drop at row))) ≡ e + 1 = omega arith in
      ap (all_taken r) (next_part 0 (drop at row) some)
      ∙ ap (λ (word : List ℕ). option_and_then (λ r'. all_taken r' (ended_by 0 (drop (suc (length (up_to 0 (drop at row)))) (drop at row)))) (taken r word))
      (sym (prefix 0 (drop at row)) ∙ ap (λ (k : ℕ). take k (drop at row)) n)
      ∙ ap (λ (left : List ℕ). option_and_then (λ r'. all_taken r' (ended_by 0 left)) (taken r (take (e - at) (drop at row))))
      (drop-drop (suc (length (up_to 0 (drop at row)))) at row ∙ ap (λ (k : ℕ). drop k row) past)

  pub no_word : length row ≤ at → all_taken r (ended_by 0 (drop at row)) ≡ Some r
  unfolding all_taken
  no_word past = ap (λ (left : List ℕ). all_taken r (ended_by 0 left)) (drop_of_length-le row past) ∙ ap (all_taken r) (no_part 0)
