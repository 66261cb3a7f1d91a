-- The promise of `crunch_contour` determines the answer and every lent row; and the answer and the points written are those of the contour, of the
-- settings and of the lengths of the rows alone, whatever the rows held. Assumes nothing.
use Rattle.std.specs.Prelude.{ℕ, min, List, [], ◌≡◌, refl, ℤ, length, take, drop, replicate, Result}
use Rattle.std.proofs.Common.{le_refl, sym, ap, ◌∙◌}
use Rattle.std.proofs.lemmas.List.{length-map, take-append-le}
use Rattle.std.proofs.Math.Seq.{take-length}
use Rattle.refusals.specs.declared.refusal.Refusal.{Refusal}
use Rattle.rows.specs.Rows.{point_zero}
use Rattle.rows.specs.Lent.{Inputs, inputs}
use Rattle.settings.specs.declared.Settings.{Settings}
use Rattle.contour.specs.Implied.{number}
use Rattle.contour.specs.Output.{Outputs, outputs, column, flag_of, flags, front}
use Rattle.edition.specs.Edition.{Rooms}
use Rattle.edition.specs.Scratch.{rooms_of, cleared}
use Rattle.edition.specs.Laws.{same_cleared}
use Rattle.crunch.specs.Crunch.{Outcome, refused, crunched, crunch_of}
use Rattle.crunch.specs.Entry.{report, answer_of, outputs_of, Rows, LentRows, room_in, point_room, whole_of, Promise}
use Rattle.crunch.specs.declared.Crunched as D

-- ---- two outcomes of one order are one

pub record Same (r r' : Result D.Crunched Refusal) (t t' : Rows) : Type 0 where
  pub answer : r ≡ r'
  pub reported : report r ≡ report r'
  pub outs : t.outs ≡ t'.outs
  pub work : t.work ≡ t'.work
  pub points : t.points ≡ t'.points

pub determined : {i : Inputs} {settings : Settings} {t t' : LentRows} {r r' : Result D.Crunched Refusal} → t.entry ≡ t'.entry →
    Promise i settings t r → Promise i settings t' r' → Same r r' t.exit t'.exit
determined {i} {settings} {t} {t'} e p q =
    let answer = p.answer ∙ ap (λ (u : Rows). answer_of (whole_of i settings u)) e ∙ sym q.answer in
    record {
      answer = answer;
      reported = ap report answer;
      outs = p.outs ∙ ap (λ (u : Rows). outputs_of (whole_of i settings u) u.outs) e ∙ sym q.outs;
      work = p.work ∙ ap (λ (u : Rows). cleared u.work) e ∙ sym q.work;
      points = p.points ∙ ap (λ (u : Rows). replicate (length u.points) point_zero) e ∙ sym q.points;
    }

-- ---- of the lent rows only their lengths count

-- how many places the output rows have
pub record Places : Type 0 where
  pub x : ℕ
  pub y : ℕ
  pub flags : ℕ

abbrev pub places_of : Outputs → Places
places_of (outputs ox oy of) = record { x = length ox; y = length oy; flags = length of }

-- rows of equal lengths
pub record Alike (t t' : Rows) : Type 0 where
  pub outs : places_of t.outs ≡ places_of t'.outs
  pub work : rooms_of t.work ≡ rooms_of t'.work
  pub points : length t.points ≡ length t'.points

same_room : (o o' : Outputs) (n : ℕ) → places_of o ≡ places_of o' → room_in o n ≡ room_in o' n
same_room (outputs ox oy of) (outputs ox' oy' of') n e = ap (λ (k : Places). min (min k.x k.y) (min k.flags n)) e

pub same_whole : (i : Inputs) (settings : Settings) (t t' : Rows) → Alike t t' → whole_of i settings t ≡ whole_of i settings t'
same_whole (inputs xs ys fs) settings t t' a =
    ap (λ (k : Rooms). crunch_of k (point_room t) settings xs ys fs) a.work
    ∙ ap (λ (n : ℕ). crunch_of (rooms_of t'.work) n settings xs ys fs)
    (same_room t.outs t'.outs (length t.points) a.outs ∙ ap (room_in t'.outs) a.points)

-- ---- the points written

-- the first n places of the output rows
abbrev pub first_of : ℕ → Outputs → Outputs
first_of n (outputs ox oy of) = outputs (take n ox) (take n oy) (take n of)

-- nothing where the contour is refused
abbrev pub written_of : Outcome → Outputs
written_of (refused k) = outputs [] [] []
written_of (crunched ps p) = outputs (column 0 ps) (column 1 ps) (flags ps)

front_first : {A : Type 0} (n : ℕ) (s row : List A) → length s ≡ n → take n (front s row) ≡ s
front_first n s row e =
    ap (λ (k : ℕ). take k (front s row)) (sym e) ∙ take-append-le (length s) s (drop (length s) row) (le_refl (length s)) ∙ take-length s

-- so many points as the report says, in the first places
pub written_first : (x : Outcome) (o : Outputs) → first_of (report (answer_of x)).points (outputs_of x o) ≡ written_of x
written_first (refused k) (outputs ox oy of) = refl
written_first (crunched ps p) (outputs ox oy of) =
    rw (
      front_first (length ps) (column 0 ps) ox (length-map ps (λ (q : List ℤ). number q 0)),
      front_first (length ps) (column 1 ps) oy (length-map ps (λ (q : List ℤ). number q 1)),
      front_first (length ps) (flags ps) of (length-map ps flag_of),
    ) refl

-- what is written, of the promise
pub written_is : {i : Inputs} {settings : Settings} {t : LentRows} {r : Result D.Crunched Refusal} → Promise i settings t r →
    first_of (report r).points t.exit.outs ≡ written_of (whole_of i settings t.entry)
written_is {i} {settings} {t} p = rw (p.answer, p.outs) (written_first (whole_of i settings t.entry) t.entry.outs)

-- ---- equal orders

pub record Equal (r r' : Result D.Crunched Refusal) (t t' : Rows) : Type 0 where
  pub answer : r ≡ r'
  pub reported : report r ≡ report r'
  pub written : first_of (report r).points t.outs ≡ first_of (report r').points t'.outs
  pub work : t.work ≡ t'.work
  pub points : t.points ≡ t'.points

-- two orders of one contour, in rows of equal lengths: the answers, the points written and the scratch rows are equal
pub equal_orders : {i : Inputs} {settings : Settings} {t t' : LentRows} {r r' : Result D.Crunched Refusal} → Alike t.entry t'.entry →
    Promise i settings t r → Promise i settings t' r' → Equal r r' t.exit t'.exit
equal_orders {i} {settings} {t} {t'} a p q =
    let whole = same_whole i settings t.entry t'.entry a in
    let answer = p.answer ∙ ap answer_of whole ∙ sym q.answer in
    record {
      answer = answer;
      reported = ap report answer;
      written = written_is p ∙ ap written_of whole ∙ sym (written_is q);
      work = p.work ∙ same_cleared t.entry.work t'.entry.work a.work ∙ sym q.work;
      points = p.points ∙ ap (λ (n : ℕ). replicate n point_zero) a.points ∙ sym q.points;
    }
