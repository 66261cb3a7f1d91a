-- What comes of the points that are put in: refused, or written out. Assumes nothing.
use Rattle.std.specs.Prelude.{Result, Ok, Err}
use Prim.Native.Nat.{ℕ, ◌≤◌, ◌<◌}
use mathlib.Core.Bool.{Bool, true, false}
use mathlib.Core.Path.{◌≡◌, refl, ap, ◌∙◌}
use borrow.Author.Tests.{lt-ltb, le-ltb}
use lib.Dec.{ltb}
use lib.ListN.{length, take}
use denote.Triple.Both.{Both}
use Rattle.refusals.specs.Refusals.{too_many}
use Rattle.refusals.specs.declared.refusal.Refusal.TheVariants.{TooManyPoints, OutputTooShort}
use Rattle.refusals.specs.declared.refusal.Refusal.{Refusal}
use Rattle.rows.specs.Lent.{Inputs}
use Rattle.contour.specs.Points.{Points}
use Rattle.contour.specs.Output.{Outputs, with_points}
use Rattle.contour.specs.Writing.{written, Wrote}
use Rattle.contour.specs.Laws.{wrote_over, wrote_all, holds_count}
use Rattle.contour.specs.declared.Written.{Written}
use Rattle.explicit.specs.Explicit.{explicit_of}
use Rattle.explicit.specs.Entry.{room_of, judged_of, left_by, WrittenOut, Report, report, refusing, writing, refuse_if, said_in, said_after}
use Rattle.explicit.specs.Entry.{answer_in, after_judging, whole_of, values_of, Promise}

module _ (ps : Points) {row : Points} {w : Written} (wrote : Wrote row w (written 1024 ps)) (o : Outputs) where
  pub over_refused : w.over ≡ true → WrittenOut ps (record { entry = o; exit = o }) (Err TooManyPoints)
  over_refused h = record { answer = rw (lt-ltb 1024 (length ps) (wrote_over 1024 ps wrote h)); left = refl }

  module _ (fits : w.over ≡ false) where
    few : length ps ≤ 1024
    few = (wrote_all 1024 ps wrote fits).1

    counted : length ps ≡ w.count
    counted = holds_count (wrote_all 1024 ps wrote fits).0

    pub short_refused : {n : ℕ} → n ≡ room_of o → n < w.count → WrittenOut ps (record { entry = o; exit = o }) (Err OutputTooShort)
    short_refused room short =
        let less : room_of o < length ps = rw (counted, ← room) short in
        record { answer = rw (le-ltb 1024 (length ps) few, lt-ltb (room_of o) (length ps) less); left = refl }

    pub all_written : {n : ℕ} {o' : Outputs} → n ≡ room_of o → w.count ≤ n → o' ≡ with_points (take w.count row) o →
        WrittenOut ps (record { entry = o; exit = o' }) (Ok w.count)
    all_written room enough out =
        let more : length ps ≤ room_of o = rw (counted, ← room) enough in
        record {
          answer = rw (le-ltb 1024 (length ps) few, le-ltb (room_of o) (length ps) more, counted);
          left = out ∙ ap (λ (q : Points). with_points q o) (wrote_all 1024 ps wrote fits).0.are;
        }

-- ---- the documents' values

abbrev refused : Refusal → Bool → Result ℕ Refusal → Result ℕ Refusal
refused = refuse_if Err Ok

abbrev number : Refusal → Bool → Report → Report
number = refuse_if refusing writing

report_in : (s t : Bool) (n : ℕ) → report (refused TooManyPoints s (refused OutputTooShort t (Ok n))) ≡ number TooManyPoints s (number OutputTooShort t (writing n))
report_in true t n = refl
report_in false true n = refl
report_in false false n = refl

report_after : (j : Result Unit Refusal) (a : Result ℕ Refusal) (v : Report) → report a ≡ v → report (after_judging j a) ≡ said_after refusing writing j v
report_after (Err k) a v e = refl
report_after (Ok tt) a v e = e

report_whole : (i : Inputs) (room : ℕ) → report (whole_of i room) ≡ values_of i room
report_whole i room =
    let ps = explicit_of i in
    report_after (judged_of i) (answer_in room ps) (said_in refusing writing room ps) (report_in (too_many (length ps)) (ltb room (length ps)) (length ps))

promised : {i : Inputs} {w : Both Outputs Outputs} {r : Result ℕ Refusal} → r ≡ whole_of i (room_of w.entry) → w.exit ≡ left_by r (explicit_of i) w.entry →
    Promise i w r
promised {i} {w} e left = record { answer = e; values = ap report e ∙ report_whole i (room_of w.entry); left = left }

-- ---- 1, 2 and 21 first

pub refused_first : (i : Inputs) (o : Outputs) {j : Result Unit Refusal} {k : Refusal} → j ≡ judged_of i → j ≡ Err k → Promise i (record { entry = o; exit = o }) (Err k)
refused_first i o is h = promised (rw (← is, h)) refl

pub after_judging_lem : (i : Inputs) {w : Both Outputs Outputs} {j : Result Unit Refusal} {r : Result ℕ Refusal} → j ≡ judged_of i → j ≡ Ok tt → WrittenOut (explicit_of i) w r → Promise i w r
after_judging_lem i is h out = promised (rw (← is, h) out.answer) out.left
