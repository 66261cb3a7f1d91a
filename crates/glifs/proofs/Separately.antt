-- What is written into a file is its contours, each crunched; and the first that is refused refuses the file. Assumes nothing.
use Prim.Native.Nat.{ℕ}
use mathlib.Core.Bool.{Bool, true, false, not}
use mathlib.Core.List.{List}
use mathlib.Core.Path.{◌≡◌, refl, sym}
use borrow.Author.Tests.{ltb-false}
use lib.Dec.{ltb}
use lib.IntN.{ℤ}
use lib.ListN.{length}
use Rattle.refusals.specs.declared.refusal.Refusal.{Refusal}
use Rattle.refusals.specs.declared.refusal.Refusal.TheVariants.{UnevenRows, NoSuchPenalty, TooLarge}
use Rattle.glyf.specs.Layout.{Outcome, done, refused, refuse}
use Rattle.settings.specs.Settings.{settings_fine}
use Rattle.settings.specs.declared.Settings.{Settings}
use Rattle.contour.specs.Points.{Points}
use Rattle.edition.specs.Edition as Edition
use Rattle.glyphs.specs.Glyphs.{and_then, contours_from, least_of, crunch_each, numbered, together}
use Rattle.glyphs.specs.Separately.{FirstRefused}
use Rattle.glyphs.proofs.Separately.{each, first}
use Rattle.glifread.specs.Reads.{rooms}
use Rattle.glifread.specs.Reads as Reads
use Rattle.glifwrite.specs.Writes.{GivenRows, given}
use Rattle.glifs.proofs.Rising.{read_belongs}
use Rattle.glifs.specs.Glifs.{Rooms, read_of, belong, given_of, renewed_in, crunch_glif_of}
use Rattle.glifs.specs.Separately.{contours_of, point_room, ContourByContour, WrittenByContours, RefusedByFirst}

module _ (r : Rooms) (settings : Settings) (bytes : List ℕ) (g : GivenRows) where
  abbrev each_of : GivenRows → Outcome (List Points)
  each_of old = crunch_each r.work settings (point_room r.read r.points) (contours_of old)

  module _ (old : GivenRows) (read : read_of r.read bytes ≡ done old) where
    tested : (news : List Points) → each_of old ≡ done news → (unfit many : Bool) → ltb 65536 (length (together news)) ≡ many →
        and_then (refuse NoSuchPenalty unfit (refuse TooLarge many (done news))) (λ cs. done (given_of cs)) ≡ done g → ContourByContour r settings bytes g
    tested news is true many m e = absurd cc
    tested news is false true m e = absurd cc
    tested news is false false m e = record {
      old = old;
      read = read;
      contours = news;
      each = each r.work settings (point_room r.read r.points) (contours_of old) is;
      are = let same : given_of news ≡ g = cc in sym same;
      few = ltb-false 65536 (length (together news)) m;
    }

    crunched : (o : Outcome (List Points)) → each_of old ≡ o → and_then (and_then o (numbered settings)) (λ cs. done (given_of cs)) ≡ done g →
        ContourByContour r settings bytes g
    crunched (refused k) is e = absurd cc
    crunched (done news) is e = tested news is (not (settings_fine settings)) (ltb 65536 (length (together news))) refl e

  belonging : (old : GivenRows) → read_of r.read bytes ≡ done old → (b : Bool) →
      refuse UnevenRows b (and_then (and_then (each_of old) (numbered settings)) (λ cs. done (given_of cs))) ≡ done g → ContourByContour r settings bytes g
  belonging old read true e = absurd cc
  belonging old read false e = crunched old read (each_of old) refl e

module _ (out : ℕ) (work : Edition.Rooms) (points : ℕ) (settings : Settings) (bytes : List ℕ) where
  abbrev lent : Reads.Rooms → Rooms
  lent n = record { out = out; read = n; work = work; points = points }

  by_read : (ends xs ys flags marks : ℕ) (g : GivenRows) (o : Outcome GivenRows) → read_of (rooms ends xs ys flags marks) bytes ≡ o →
      and_then o (renewed_in (rooms ends xs ys flags marks) work settings points) ≡ done g → ContourByContour (lent (rooms ends xs ys flags marks)) settings bytes g
  by_read ends xs ys flags marks g (refused k) is e = absurd cc
  by_read ends xs ys flags marks g (done (given es us vs fs)) is e =
      belonging (lent (rooms ends xs ys flags marks)) settings bytes g (given es us vs fs) is (not (belong es (length us))) e

  by_rooms : (n : Reads.Rooms) (g : GivenRows) → crunch_glif_of (lent n) settings bytes ≡ done g → ContourByContour (lent n) settings bytes g
  unfolding crunch_glif_of
  by_rooms (rooms ends xs ys flags marks) g e = by_read ends xs ys flags marks g (read_of (rooms ends xs ys flags marks) bytes) refl e

  first_by : (n : Reads.Rooms) (ends : List ℕ) (xs ys : List ℤ) (fs : List ℕ) (k : Refusal) → read_of n bytes ≡ done (given ends xs ys fs) →
      belong ends (length xs) ≡ true → FirstRefused work settings k (point_room n points) (contours_from 0 ends xs ys fs) →
      crunch_glif_of (lent n) settings bytes ≡ refused k
  unfolding crunch_glif_of
  first_by (rooms e x y f m) ends xs ys fs k read belongs l = rw (read, belongs, first work settings k (least_of x y f points) (contours_from 0 ends xs ys fs) l) refl

pub written_by_contours : WrittenByContours
written_by_contours r settings bytes g e = by_rooms r.out r.work r.points settings bytes r.read g e

pub refused_by_first : RefusedByFirst
refused_by_first r settings bytes ends xs ys fs k read l =
    first_by r.out r.work r.points settings bytes r.read ends xs ys fs k read (read_belongs r.read bytes ends xs ys fs read) l
