-- From the row that `write_glyph` filled `read_glyph` gives the glyph back. Assumes nothing.
use Rattle.std.specs.Prelude.{Ok}
use Rattle.refusals.specs.declared.refusal.Refusal.TheVariants.{OutputTooShort}
use Prim.Native.Nat.{ℕ}
use native.Mathlib.Omega.{arith}
use mathlib.Core.Bool.{Bool, false}
use mathlib.Core.List.{List}
use mathlib.Core.Path.{◌≡◌, refl, ap, ◌∙◌}
use Rattle.rows.specs.Lent.{before, after, room}
use Rattle.glyf.specs.Layout.{Glyph, Outcome, done, refused, laid, laid_in, left_by, refuse, Rooms, rooms_of, too_small, roomy, trimmed, described, read_of, written_of}
use Rattle.glyf.specs.Trips.{as_read}
use Rattle.glyf.proofs.After.{filled_row_says}
use Rattle.glyfread.specs.Reads as Reads
use Rattle.glyfwrite.specs.Writes as Writes
use Rattle.glyphs.specs.Handed.{FilledRowReadBack}

-- where so many bytes are the answer, they were written
record Bytes (o : Outcome (List ℕ)) : Type 0 where
  bytes : List ℕ
  are : o ≡ done bytes

written : (n : ℕ) (o : Outcome (List ℕ)) → Ok n ≡ Writes.answer_of o → Bytes o
written n (done bytes) e = record { bytes = bytes; are = refl }
written n (refused k) e = let z : ◌≡◌ {A = ℕ} 0 1 = cc in absurd (omega arith)

-- and what is read of the row
reads : (r : Rooms) (row : List ℕ) (g : Glyph) → described row ≡ done g → too_small r g ≡ false → read_of r row ≡ done g
unfolding read_of
reads r row g e h = ap (roomy r) e ∙ ap (λ (t : Bool). refuse OutputTooShort t (done g)) h

pub filled_row_read_back : FilledRowReadBack
filled_row_read_back g out n w r held wrote read fits =
    let filled = written n (written_of (room out) g) wrote.answer in
    let row_is : after out ≡ laid filled.bytes (before out) = wrote.left ∙ ap (λ (o : Outcome (List ℕ)). left_by laid o (before out)) filled.are in
    let says : described (after out) ≡ done (as_read (trimmed g)) = ap described row_is ∙ filled_row_says (room out) g filled.bytes (before out) held filled.are in
    let is = reads (rooms_of w.entry) (after out) (as_read (trimmed g)) says fits in
    record {
      answer = read.answer ∙ ap Reads.answer_of is;
      left = read.left ∙ ap (λ (o : Outcome Glyph). left_by laid_in o w.entry) is;
    }
