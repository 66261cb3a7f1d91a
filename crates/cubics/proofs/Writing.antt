-- What comes of the points that are made: refused, or written out. Assumes nothing.
use Rattle.std.specs.Prelude.{Result, Ok, Err}
use Prim.Native.Nat.{ℕ, ◌≤◌, ◌<◌}
use mathlib.Core.Bool.{Bool, true, false}
use mathlib.Core.List.{map}
use mathlib.Core.Path.{◌≡◌, refl, sym, ap, ◌∙◌}
use borrow.Author.Tests.{lt-ltb, le-ltb}
use lib.Dec.{ltb}
use lib.ListN.{length, take, length-map}
use denote.Triple.Both.{Both}
use Rattle.refusals.specs.Refusals.{too_many}
use Rattle.refusals.specs.declared.refusal.Refusal.TheVariants.{TooManyPoints, OutputTooShort, Outside16Bits}
use Rattle.refusals.specs.declared.refusal.Refusal.{Refusal}
use Rattle.rows.specs.Lent.{Inputs}
use Rattle.contour.specs.Points.{Points}
use Rattle.contour.specs.Output.{Outputs, with_points}
use Rattle.contour.specs.Laws.{wrote_over, wrote_all, holds_count}
use Rattle.cubics.specs.Making.{stored, MadeOf}
use Rattle.cubics.specs.Replacing.{any_outside}
use Rattle.cubics.specs.Entry.{room_of, judged_of, points_of, left_by, WrittenOut, Report, report, refusing, making, refuse_if, said_in, said_after}
use Rattle.cubics.specs.Entry.{answer_in, after_judging, whole_of, values_of, Promise}
use Rattle.cubics.specs.declared.Made.{Made}
use Rattle.cubics.proofs.Making.{all_kept}

module _ (ps : Points) {row : Points} {m : Made} (made : MadeOf 1024 row m ps) where
  pub too_many_lem : m.over ≡ true → 1024 < length ps
  too_many_lem h = rw (length-map ps stored) at (wrote_over 1024 (map stored ps) made.wrote h)

  pub few_enough : m.over ≡ false → length ps ≤ 1024
  few_enough h = rw (length-map ps stored) at (wrote_all 1024 (map stored ps) made.wrote h).1

  pub counted : m.over ≡ false → length ps ≡ m.count
  counted h = sym (length-map ps stored) ∙ holds_count (wrote_all 1024 (map stored ps) made.wrote h).0

  pub held : m.over ≡ false → m.far ≡ false → take m.count row ≡ ps
  held h f = (wrote_all 1024 (map stored ps) made.wrote h).0.are ∙ all_kept ps (sym made.far ∙ f)

  module _ (o : Outputs) where
    pub over_refused : m.over ≡ true → WrittenOut ps (record { entry = o; exit = o }) (Err TooManyPoints)
    over_refused h = record { answer = rw (lt-ltb 1024 (length ps) (too_many_lem h)); left = refl }

    pub far_refused : m.over ≡ false → m.far ≡ true → WrittenOut ps (record { entry = o; exit = o }) (Err Outside16Bits)
    far_refused h f = record { answer = rw (le-ltb 1024 (length ps) (few_enough h), ← made.far, f); left = refl }

    pub short_refused : {n : ℕ} → m.over ≡ false → m.far ≡ false → n ≡ room_of o → n < m.count → WrittenOut ps (record { entry = o; exit = o }) (Err OutputTooShort)
    short_refused {n} h f room short =
        let less : room_of o < length ps = rw (counted h, ← room) short in
        record { answer = rw (le-ltb 1024 (length ps) (few_enough h), ← made.far, f, lt-ltb (room_of o) (length ps) less); left = refl }

    pub all_written : {n : ℕ} {o' : Outputs} → m.over ≡ false → m.far ≡ false → n ≡ room_of o → m.count ≤ n → o' ≡ with_points (take m.count row) o →
        WrittenOut ps (record { entry = o; exit = o' }) (Ok m.count)
    all_written {n} h f room fits written =
        let more : length ps ≤ room_of o = rw (counted h, ← room) fits in
        record {
          answer = rw (le-ltb 1024 (length ps) (few_enough h), ← made.far, f, le-ltb (room_of o) (length ps) more, counted h);
          left = written ∙ ap (λ (q : Points). with_points q o) (held h f);
        }

-- ---- the documents' values

abbrev refused : Refusal → Bool → Result ℕ Refusal → Result ℕ Refusal
refused = refuse_if Err Ok

abbrev number : Refusal → Bool → Report → Report
number = refuse_if refusing making

report_in : (s t u : Bool) (n : ℕ) → report (refused TooManyPoints s (refused Outside16Bits t (refused OutputTooShort u (Ok n)))) ≡ number TooManyPoints s (number Outside16Bits t (number OutputTooShort u (making n)))
report_in true t u n = refl
report_in false true u n = refl
report_in false false true n = refl
report_in false false false n = refl

report_after : (j : Result Unit Refusal) (a : Result ℕ Refusal) (v : Report) → report a ≡ v → report (after_judging j a) ≡ said_after refusing making j v
report_after (Err k) a v e = refl
report_after (Ok tt) a v e = e

report_whole : (i : Inputs) (room : ℕ) → report (whole_of i room) ≡ values_of i room
report_whole i room =
    let ps = points_of i in
    report_after (judged_of i) (answer_in room ps) (said_in refusing making room ps)
    (report_in (too_many (length ps)) (any_outside ps) (ltb room (length ps)) (length ps))

promised : {i : Inputs} {w : Both Outputs Outputs} {r : Result ℕ Refusal} → r ≡ whole_of i (room_of w.entry) → w.exit ≡ left_by r (points_of i) w.entry →
    Promise i w r
promised {i} {w} e left = record { answer = e; values = ap report e ∙ report_whole i (room_of w.entry); left = left }

-- ---- 1, 2, 4 and 5 first

pub refused_first : (i : Inputs) (o : Outputs) {j : Result Unit Refusal} {k : Refusal} → j ≡ judged_of i → j ≡ Err k → Promise i (record { entry = o; exit = o }) (Err k)
refused_first i o is h = promised (rw (← is, h)) refl

pub after_judging_lem : (i : Inputs) {w : Both Outputs Outputs} {j : Result Unit Refusal} {r : Result ℕ Refusal} → j ≡ judged_of i → j ≡ Ok tt → WrittenOut (points_of i) w r → Promise i w r
after_judging_lem i is h written = promised (rw (← is, h) written.answer) written.left
