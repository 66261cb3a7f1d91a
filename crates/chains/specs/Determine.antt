-- The promise of `chain_of_run` determines the answer and every lent row. Of the scratch rows only the lengths count, of the chain's rows only the
-- shortest's: equal orders get equal answers and write equal places. Assumes nothing.
use Rattle.std.specs.Prelude.{ℕ, List, map, ◌≡◌, refl, Float, length, take, Result}
use Rattle.std.proofs.Common.{sym, ap, subst, ◌∙◌}
use Rattle.std.proofs.lemmas.List.{length-map}
use Rattle.std.proofs.Math.Seq.{take-append_seam}
use Rattle.refusals.specs.declared.refusal.Refusal.{Refusal}
use Rattle.chain.specs.declared.Piece.{Piece}
use Rattle.contour.specs.Output.{front}
use Rattle.rows.specs.Rows.{Work}
use Rattle.rows.specs.Lent.{Inputs, inputs}
use Rattle.settings.specs.declared.Settings.{Settings}
use Rattle.edition.specs.Edition.{Rooms}
use Rattle.edition.specs.Laws.{same_cleared}
use Rattle.edition.specs.Scratch.{Scratch, rooms_of, cleared}
use Rattle.optimize.specs.declared.Tally.{Tally}
use Rattle.breaks.specs.Breaks.{Row}
use Rattle.pieces.specs.Slots.{chain}
use Rattle.chains.specs.Chains.{Outcome, refused, unchanged, chain_of}
use Rattle.chains.specs.Chains as Chains
use Rattle.chains.specs.Spans.{span_of, breaks_at}
use Rattle.chains.specs.Entry.{report, values_of, answer_of, Rows, rows, room_in, rows_of, LentChain, whole_of, breaks_in, Promise}
use Rattle.chains.specs.declared.Chained as C

-- ---- an answer has document 01's values of what became of the run

pub values_are : (o : Outcome) {r : Result C.Chained Refusal} → r ≡ answer_of o → report r ≡ values_of o
values_are (refused k) e = ap report e
values_are (unchanged t) e = ap report e
values_are (Chains.chained ps s t) e = ap report e

-- ---- one order

pub record Same (r r' : Result C.Chained Refusal) (c c' : Rows) (w w' : Work) : Type 0 where
  pub answer : r ≡ r'
  pub rows : c ≡ c'
  pub work : w ≡ w'

-- two outcomes of one order are one, in the chain's rows also beyond the pieces
pub determined : {i : Inputs} {settings : Settings} {k : ℕ} {c c' : LentChain} {w w' : Scratch} {r r' : Result C.Chained Refusal} → c.entry ≡ c'.entry →
    w.entry ≡ w'.entry →
    Promise i settings k c w r → Promise i settings k c' w' r' → Same r r' c.exit c'.exit w.exit w'.exit
determined {i} {settings} {k} {c} {c'} {w} {w'} e f p q =
    let whole : whole_of i settings k c.entry w.entry ≡ whole_of i settings k c'.entry w'.entry = rw (e, f) refl in
    record {
      answer = p.answer ∙ ap answer_of whole ∙ sym q.answer;
      rows = p.rows ∙ rw (e, f) refl ∙ sym q.rows;
      work = p.work ∙ ap cleared f ∙ sym q.work;
    }

-- ---- equal orders

pub same_whole : (i : Inputs) (settings : Settings) (k : ℕ) (c c' : Rows) (w w' : Work) → room_in c ≡ room_in c' → rooms_of w ≡ rooms_of w' →
    whole_of i settings k c w ≡ whole_of i settings k c' w'
same_whole (inputs xs ys fs) settings k c c' w w' room rooms =
    ap (λ (n : ℕ). chain_of (rooms_of w) n settings xs ys fs k) room ∙ ap (λ (m : Rooms). chain_of m (room_in c') settings xs ys fs k) rooms

same_breaks : (i : Inputs) (settings : Settings) (k : ℕ) (w w' : Work) → rooms_of w ≡ rooms_of w' → breaks_in i settings k w ≡ breaks_in i settings k w'
same_breaks (inputs xs ys fs) settings k w w' rooms = ap (λ (m : Rooms). breaks_at m settings xs ys fs k) rooms

-- the first n places of each of the chain's rows
abbrev pub places_of : ℕ → Rows → Rows
places_of n (rows (chain st en cx cy) sp) = rows (chain (take n st) (take n en) (take n cx) (take n cy)) (take n sp)

pub front_places : {A : Type 0} (f : Piece → A) (ps : List Piece) (row : List A) → take (length ps) (front (map f ps) row) ≡ map f ps
front_places f ps row = subst (λ (n : ℕ). take n (front (map f ps) row) ≡ map f ps) (length-map ps f) (take-append_seam (map f ps) _)

pub chained_places : (ps : List Piece) (s : Float) (t : Tally) (breaks : Row) (c : Rows) →
    places_of (length ps) (rows_of (Chains.chained ps s t) breaks c)
    ≡ rows
    (chain (map (λ (p : Piece). p.from) ps) (map (λ (p : Piece). p.to) ps) (map (λ (p : Piece). p.control.x) ps) (map (λ (p : Piece). p.control.y) ps))
    (map (span_of breaks) ps)
chained_places ps s t breaks (rows (chain st en cx cy) sp) =
    rw (
      front_places (λ (p : Piece). p.from) ps st,
      front_places (λ (p : Piece). p.to) ps en,
      front_places (λ (p : Piece). p.control.x) ps cx,
      front_places (λ (p : Piece). p.control.y) ps cy,
      front_places (span_of breaks) ps sp,
    ) refl

-- the written places are the same, whatever the rows held
pub same_places : (o : Outcome) (breaks : Row) (c c' : Rows) →
    places_of (report (answer_of o)).pieces (rows_of o breaks c) ≡ places_of (report (answer_of o)).pieces (rows_of o breaks c')
same_places (refused k) breaks (rows (chain st en cx cy) sp) (rows (chain st' en' cx' cy') sp') = refl
same_places (unchanged t) breaks (rows (chain st en cx cy) sp) (rows (chain st' en' cx' cy') sp') = refl
same_places (Chains.chained ps s t) breaks c c' = chained_places ps s t breaks c ∙ sym (chained_places ps s t breaks c')

pub record Equal (r r' : Result C.Chained Refusal) (c c' : Rows) (w w' : Work) : Type 0 where
  pub answer : r ≡ r'
  pub places : places_of (report r).pieces c ≡ places_of (report r).pieces c'
  pub work : w ≡ w'

-- two orders of one contour and run, in rows of equal lengths: the answers, the pieces written and the scratch rows are equal
pub equal_orders : {i : Inputs} {settings : Settings} {k : ℕ} {c c' : LentChain} {w w' : Scratch} {r r' : Result C.Chained Refusal} →
    room_in c.entry ≡ room_in c'.entry → rooms_of w.entry ≡ rooms_of w'.entry →
    Promise i settings k c w r → Promise i settings k c' w' r' → Equal r r' c.exit c'.exit w.exit w'.exit
equal_orders {i} {settings} {k} {c} {c'} {w} {w'} room rooms p q =
    let whole = same_whole i settings k c.entry c'.entry w.entry w'.entry room rooms in
    let breaks = same_breaks i settings k w.entry w'.entry rooms in
    record {
      answer = p.answer ∙ ap answer_of whole ∙ sym q.answer;
      places = rw (p.answer, p.rows, q.rows, ← whole, ← breaks)
          (same_places (whole_of i settings k c.entry w.entry) (breaks_in i settings k w.entry) c.entry c'.entry);
      work = p.work ∙ same_cleared w.entry w'.entry rooms ∙ sym q.work;
    }
