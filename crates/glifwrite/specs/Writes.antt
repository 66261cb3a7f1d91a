-- A file with the insides of its contours replaced. Definitions only.
use Rattle.std.specs.Prelude.{ℕ, zero, suc, ◌-◌, Bool, List, eqb, ltb, ℤ, length, replicate, Option, Some, None, is_some, Result, Ok, Err}
use Rattle.std.specs.Option.{option_or}
use Rattle.refusals.specs.declared.refusal.Refusal.{Refusal}
use Rattle.refusals.specs.declared.refusal.Refusal.TheVariants.{OutputTooShort}
use Rattle.gliftext.specs.Pick.{pick, both, more}
use Rattle.glif.specs.Scan.{Pass, pass, scanned, Judged, judged, judged_of}
use Rattle.glif.specs.declared.scan.Scan.{Scan}
use Rattle.glif.specs.declared.scan.Totals.{Totals}
use Rattle.glifwrite.specs.Puts.{Putting, put, put_range}
use Rattle.glifwrite.specs.Contours.{end_at, start_of, put_to, rows_refused}
use Rattle.glifwrite.specs.declared.write.Copy.{Copy}

-- the rows: ends, x, y, flags
pub data GivenRows : Type 0 where
  given : List ℕ → List ℤ → List ℤ → List ℕ → GivenRows

-- the file read up to place k, with names in a row of 256 places, and no row for its points
abbrev pub no_points : List (List ℕ)
no_points = replicate 1 (replicate 3 0)

abbrev pub read_to : List ℕ → ℕ → Pass
read_to bytes k = scanned bytes k (replicate 256 0) no_points

abbrev pub scan_in : Pass → Scan
scan_in (pass s names points) = s

-- ---- copying

pub data Copying : Type 0 where
  copying : Copy → List ℕ → Copying

abbrev pub no_copy : Copy
no_copy = record { from = 0; tag = 0; k = 0; at = 0 }

abbrev pub copied : ℕ → ℕ → ℕ → Putting → Copying
copied from tag k (put at out) = copying (record { from = from; tag = tag; k = k; at = at }) out

-- a contour that opens: what stands before its inside is copied, and its points are put; one that closes: what stands from its end tag on is to be
-- copied
abbrev pub copy_as : List ℕ → GivenRows → ℕ → ℕ → Bool → Bool → Copying → Copying
copy_as bytes (given ends xs ys flags) i tag opens closes (copying c out) =
    copied (pick closes tag c.from) tag (pick opens (more c.k) c.k)
    (put_to xs ys flags (start_of ends c.k) (pick opens (end_at ends c.k) 0) (pick opens (end_at ends c.k) 0 - start_of ends c.k)
    (put_range bytes c.from (pick opens (more i) c.from - c.from) (put c.at out)))

abbrev pub tag_at : Copying → ℕ
tag_at (copying c out) = c.tag

-- 15 is the state after `<`; level 2 is the outline's, level 3 a contour's
unfoldable pub copy_on : List ℕ → GivenRows → ℕ → Scan → Scan → Copying → Copying
copy_on bytes g i s t q =
    copy_as bytes g i (pick (eqb t.text.state 15) i (tag_at q)) (both (eqb s.tree.level 2) (eqb t.tree.level 3))
    (both (eqb s.tree.level 3) (eqb t.tree.level 2)) q

-- the first k bytes
unfoldable pub copy_to : List ℕ → GivenRows → ℕ → Copying → Copying
copy_to bytes g zero q = q
copy_to bytes g (suc k) q = copy_on bytes g k (scan_in (read_to bytes k)) (scan_in (read_to bytes (suc k))) (copy_to bytes g k q)

abbrev pub rest : List ℕ → ℕ → Copying → Putting
rest bytes n (copying c out) = put_range bytes c.from (n - c.from) (put c.at out)

-- n bytes: all, or none where the file is refused
unfoldable pub write_all : List ℕ → GivenRows → ℕ → List ℕ → Putting
write_all bytes g n out = rest bytes n (copy_to bytes g n (copying no_copy out))

-- ---- refusals and the answer

abbrev pub place_in : Putting → ℕ
place_in (put at out) = at

abbrev pub row_in : Putting → List ℕ
row_in (put at out) = out

abbrev pub totals_in : Judged → Totals
totals_in (judged f points) = f

abbrev pub file_in : List ℕ → Totals
file_in bytes = totals_in (judged_of bytes no_points)

abbrev pub refused_by : Totals → GivenRows → Option Refusal
refused_by f (given ends xs ys flags) = rows_refused f.refusal f.contours ends (length xs) (length ys) (length flags)

-- how long the file is when written: what is put into a row of one place is counted all the same
abbrev pub size_of : List ℕ → GivenRows → Option Refusal → ℕ
size_of bytes g k = place_in (write_all bytes g (pick (is_some k) 0 (length bytes)) (replicate 1 0))

-- the file's refusal, 1, 2, and last 9
unfoldable pub refusal_of : List ℕ → GivenRows → ℕ → Option Refusal → Option Refusal
refusal_of bytes g room k = option_or k (pick (ltb room (size_of bytes g k)) (Some OutputTooShort) None)

abbrev pub answer_as : Option Refusal → ℕ → Result ℕ Refusal
answer_as (Some k) size = Err k
answer_as None size = Ok size

-- where nothing is refused all is written, else nothing
abbrev pub written_as : List ℕ → GivenRows → Option Refusal → List ℕ → Putting
written_as bytes g refusal out = write_all bytes g (pick (is_some refusal) 0 (length bytes)) out

abbrev pub refusal_in : List ℕ → GivenRows → ℕ → Option Refusal
refusal_in bytes g room = refusal_of bytes g room (refused_by (file_in bytes) g)

abbrev pub answer_of : List ℕ → GivenRows → ℕ → Result ℕ Refusal
answer_of bytes g room = answer_as (refusal_in bytes g room) (size_of bytes g (refused_by (file_in bytes) g))

abbrev pub left_in : List ℕ → GivenRows → ℕ → List ℕ → List ℕ
left_in bytes g room out = row_in (written_as bytes g (refusal_in bytes g room) out)
