-- What is refused, and what reading answers and leaves. Definitions only.
use Rattle.std.specs.Prelude.{ℕ, List, ltb, length, replicate, Option, Some, None, is_some, Result, Ok, Err}
use Rattle.std.specs.Option.{option_or}
use Rattle.refusals.specs.declared.refusal.Refusal.{Refusal}
use Rattle.refusals.specs.declared.refusal.Refusal.TheVariants.{OutputTooShort}
use Rattle.gliftext.specs.Pick.{pick}
use Rattle.glif.specs.declared.scan.Totals.{Totals}
use Rattle.glif.specs.Scan.{Judged, judged}
use Rattle.glifread.specs.Enter.{no_place, rows, Filled, filled, enter_all}
use Rattle.glifread.specs.declared.read.Counts.{Counts}

abbrev pub nine : Option Refusal
nine = Some OutputTooShort

-- the file's own refusal, else 9 where a row is too short: ends, scratch points, x, y, flags
unfoldable pub refusal : Totals → ℕ → ℕ → ℕ → ℕ → ℕ → Option Refusal
refusal f ends xs ys flags points =
    option_or f.refusal
    (pick (ltb ends f.contours) nine
    (pick (ltb points f.points) nine
    (pick (ltb xs f.full) nine (pick (ltb ys f.full) nine (pick (ltb flags f.full) nine None)))))

abbrev pub answer_of : Totals → Option Refusal → Result Counts Refusal
answer_of f (Some k) = Err k
answer_of f None = Ok (record { contours = f.contours; points = f.full })

-- ---- the rows: those that are filled, and the scratch row

pub data Kept : Type 0 where
  kept : Filled → List (List ℕ) → Kept

-- their lengths: ends, x, y, flags, scratch points
pub data Rooms : Type 0 where
  rooms : ℕ → ℕ → ℕ → ℕ → ℕ → Rooms

abbrev pub rooms_of : Kept → Rooms
rooms_of (kept (filled ends (rows xs ys fs)) points) = rooms (length ends) (length xs) (length ys) (length fs) (length points)

abbrev pub scratch_room : Rooms → ℕ
scratch_room (rooms ends xs ys fs points) = points

abbrev pub refusal_in : Totals → Rooms → Option Refusal
refusal_in f (rooms ends xs ys fs points) = refusal f ends xs ys fs points

abbrev pub answer_by : Judged → Rooms → Result Counts Refusal
answer_by (judged f ps) r = answer_of f (refusal_in f r)

-- where nothing is refused every contour enters, else none
abbrev pub enters_by : Judged → Rooms → Filled → Filled
enters_by (judged f ps) r given = enter_all ps f.points (pick (is_some (refusal_in f r)) 0 f.contours) given

abbrev pub left_by : Judged → Rooms → Kept → Kept
left_by j r (kept f points) = kept (enters_by j r f) (replicate (scratch_room r) no_place)
