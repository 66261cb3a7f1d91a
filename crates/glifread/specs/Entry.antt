-- What `read_glif` promises, of any bytes and any rows. Definitions only.
use Rattle.std.specs.Prelude.{ℕ, List, ◌≡◌, ℤ, replicate, Result}
use Rattle.refusals.specs.declared.refusal.Refusal.{Refusal}
use denote.Triple.Both.{Both}
use Rattle.rows.specs.Lent.{Lent, before, after}
use Rattle.glif.specs.Scan.{Judged, judged_of}
use Rattle.glifread.specs.Enter.{no_place, rows, filled}
use Rattle.glifread.specs.Reads.{Kept, kept, Rooms, rooms_of, scratch_room, answer_by, left_by}
use Rattle.glifread.specs.declared.read.Counts.{Counts}

-- the rows as lent and as left: ends, x, y, flags, and the scratch row for points
abbrev pub lent : Lent ℕ → Lent ℤ → Lent ℤ → Lent ℕ → Lent (List ℕ) → Both Kept Kept
lent ends xs ys flags points = record {
  entry = kept (filled (before ends) (rows (before xs) (before ys) (before flags))) (before points);
  exit = kept (filled (after ends) (rows (after xs) (after ys) (after flags))) (after points);
}

-- the file with its points in a scratch row of so many places
abbrev pub judged_in : List ℕ → Rooms → Judged
judged_in bytes r = judged_of bytes (replicate (scratch_room r) no_place)

-- the answer, and what the rows hold: the contours at their fronts, or, where refused, what they held; the scratch row is zero
pub record Promise (bytes : List ℕ) (w : Both Kept Kept) (r : Result Counts Refusal) : Type 0 where
  pub answer : r ≡ answer_by (judged_in bytes (rooms_of w.entry)) (rooms_of w.entry)
  pub left : w.exit ≡ left_by (judged_in bytes (rooms_of w.entry)) (rooms_of w.entry) w.entry
