-- What the chain entry makes of what its steps hand on. Assumes nothing.
use Rattle.std.specs.Prelude.{Option, Some, None, Result, Ok, Err}
use Prim.Native.Nat.{ℕ, min, ◌≤◌, ◌<◌}
use native.Mathlib.Omega.{arith}
use mathlib.Core.Bool.{Bool, true, false}
use mathlib.Core.List.{List, [], map}
use mathlib.Core.Path.{◌≡◌, refl, sym, ap, subst, ◌∙◌}
use borrow.Author.Tests.{ltb-false}
use lib.Dec.{ltb}
use lib.Ieee.{Float, nan}
use lib.IntN.{ℤ}
use lib.ListN.{length, get_or, take}
use Rattle.refusals.specs.Accepted.{accepted}
use Rattle.refusals.specs.Refusals.{judged}
use Rattle.refusals.specs.declared.refusal.Refusal.TheVariants.{OutputTooShort}
use Rattle.refusals.specs.declared.refusal.Refusal.{Refusal}
use Rattle.runs.specs.Runs.{numbered_run}
use Rattle.runs.specs.declared.Run.{Run}
use Rattle.breaks.specs.Breaks.{Row}
use Rattle.breaks.specs.declared.Grid.{Grid}
use Rattle.settings.specs.Settings.{grid_of, penalty_of, then_settings, judged_for}
use Rattle.settings.specs.declared.Settings.{Settings}
use Rattle.contour.specs.Output.{front}
use Rattle.segments.specs.Segments.{carried}
use Rattle.survey.specs.Survey.{Survey, survey_of, survey_in}
use Rattle.survey.specs.declared.Surveyed as Y
use Rattle.attempt.specs.Answers.{Statelet, score_of}
use Rattle.optimize.specs.Stored.{Anywhere, Holds, starts, follows}
use Rattle.chain.specs.declared.Piece.{Piece}
use Rattle.optimize.specs.declared.Tally.{Tally}
use Rattle.edition.specs.Edition as E
use Rattle.edition.specs.Edition.{RunOutcome, Rooms, Works, work_of}
use Rattle.edition.specs.Laws.{tally_in}
use Rattle.edition.specs.declared.Worked as W
use Rattle.edition.specs.declared.Worked.TheVariants as Worked
use Rattle.pieces.specs.Pieces.{pieces_of}
use Rattle.pieces.specs.Slots as P
use Rattle.pieces.specs.Slots.{Chain, room_of, put_if, put_of, Held}
use Rattle.pieces.proofs.Within.{solved_within}
use Rattle.chains.specs.Chains.{Outcome, chain_out, of_run, after_judging, chain_of}
use Rattle.chains.specs.Determine.{front_places}
use Rattle.chains.specs.Entry.{Rows, rows, room_in, answer_of, rows_of}
use Rattle.chains.specs.Spans.{span_of, spans_from, row_of, breaks_of, breaks_at}
use Rattle.chains.specs.Steps.{Handed, handed, handing, Readable}
use Rattle.chains.proofs.Spans.{spans_of}
use Rattle.chains.specs.declared.Chained as C
use Rattle.chains.specs.declared.Chained.TheVariants as Chained

-- ---- a stored answer

module _ {breaks : Row} {answers : List (List Float)} {links : List ℕ} where
  held_in_answers : {k : ℕ} {a : Statelet} → Holds Anywhere breaks answers links k a → k < length answers
  held_in_answers (starts slot) = slot.in_answers
  held_in_answers (follows slot less before) = slot.in_answers

  pub score_is : {k : ℕ} {a : Statelet} → Holds Anywhere breaks answers links k a → get_or (get_or answers k []) 0 nan ≡ score_of a
  score_is (starts slot) = slot.score
  score_is (follows slot less before) = slot.score

pub in_answers : {answers : List (List Float)} {links : List ℕ} {k : ℕ} → Held answers links k → k < length answers
in_answers h = held_in_answers h.stored.holds

-- what `put_chain` says: it wrote nothing, or so many pieces as there are, which have room
record Fits (most : ℕ) (ps : List Piece) (c c' : Chain) (n : ℕ) : Type 0 where
  room : ltb (min most (room_of c)) (length ps) ≡ false
  many : n ≡ length ps
  is : c' ≡ P.chained ps c

module _ (most : ℕ) (ps : List Piece) (c c' : Chain) {r : Option ℕ} (e : put_of most ps c ≡ P.left r c') where
  said : {q : Option ℕ} → r ≡ q → put_if (ltb (min most (room_of c)) (length ps)) ps c ≡ P.left q c'
  unfolding put_of
  said is = e ∙ ap (λ (q : Option ℕ). P.left q c') is

  fits : {n : ℕ} → r ≡ Some n → Fits most ps c c' n
  fits {n} is = by (ltb (min most (room_of c)) (length ps)) refl (said is)
    where
      by : (t : Bool) → ltb (min most (room_of c)) (length ps) ≡ t → put_if t ps c ≡ P.left (Some n) c' → Fits most ps c c' n
      by true t f = absurd cc
      by false t f = record { room = t; many = cc; is = cc }

  over : r ≡ None → (ltb (min most (room_of c)) (length ps) ≡ true) × (c' ≡ c)
  over is = by (ltb (min most (room_of c)) (length ps)) refl (said is)
    where
      by : (t : Bool) → ltb (min most (room_of c)) (length ps) ≡ t → put_if t ps c ≡ P.left None c' →
          (ltb (min most (room_of c)) (length ps) ≡ true) × (c' ≡ c)
      by true t f = (t, cc)
      by false t f = absurd cc

-- each row has a place for so many
pub has_room : (most : ℕ) (a : Statelet) (st en : List ℕ) (xs ys : List Float) (c' : Chain) {r : Option ℕ} {n : ℕ} → put_of most (pieces_of a) (P.chain st en xs ys) ≡ P.left r c' →
    r ≡ Some n → (n ≤ length st) × (n ≤ length en) × (n ≤ most)
has_room most a st en xs ys c' e is =
    let f = fits most (pieces_of a) (P.chain st en xs ys) c' e is in
    let fit : length (pieces_of a) ≤ min most (room_of (P.chain st en xs ys)) = ltb-false _ _ f.room in
    let many = f.many in
    (omega (arith, fit, many), omega (arith, fit, many), omega (arith, fit, many))

module _ (a : Statelet) (breaks : Row) (c : Chain) (spans : List (List ℕ)) (t : Tally) where
  pub put_nothing : (c' : Chain) {r : Option ℕ} → put_of (length spans) (pieces_of a) c ≡ P.left r c' → r ≡ None →
      handed (Err OutputTooShort) (rows c' spans) ≡ handing (chain_out (room_in (rows c spans)) (E.solved a t)) breaks (rows c spans)
  put_nothing c' e is =
      let o = over (length spans) (pieces_of a) c c' e is in
      rw (o.0, o.1) refl

  pub put_pieces : (st en : List ℕ) (xs ys : List Float) {spans' : List (List ℕ)} {r : Option ℕ} {n : ℕ} {s : Float} →
      put_of (length spans) (pieces_of a) c ≡ P.left r (P.chain st en xs ys) → r ≡ Some n →
      spans' ≡ front (spans_from breaks (take n st) (take n en)) spans → s ≡ score_of a →
      handed (Ok (Chained.Pieces n s t)) (rows (P.chain st en xs ys) spans') ≡ handing (chain_out (room_in (rows c spans)) (E.solved a t)) breaks (rows c spans)
  put_pieces st en xs ys e is put score =
      let f = fits (length spans) (pieces_of a) c (P.chain st en xs ys) e is in
      rw (f.room, score, put, f.many, places c st en xs ys f.is, f.is) refl
    where
      places : (d : Chain) (st en : List ℕ) (xs ys : List Float) → P.chain st en xs ys ≡ P.chained (pieces_of a) d →
          spans_from breaks (take (length (pieces_of a)) st) (take (length (pieces_of a)) en) ≡ map (span_of breaks) (pieces_of a)
      places (P.chain st₀ en₀ xs₀ ys₀) st en xs ys is =
          let s : st ≡ front (map (λ (p : Piece). p.from) (pieces_of a)) st₀ = cc in
          let t : en ≡ front (map (λ (p : Piece). p.to) (pieces_of a)) en₀ = cc in
          rw (s, t, front_places (λ (p : Piece). p.from) (pieces_of a) st₀, front_places (λ (p : Piece). p.to) (pieces_of a) en₀) (spans_of breaks (pieces_of a))

-- ---- the work on a run

module _ {penalty : Float} {breaks : Row} {answers : List (List Float)} {links : List ℕ} where
  works_held : {x : RunOutcome} {w : Result W.Worked Refusal} {n k : ℕ} {t : Tally} → Works penalty breaks answers links x w → w ≡ Ok (Worked.Done n k t) → Held answers links k
  works_held (E.no e) is = absurd cc
  works_held (E.stays e) is = absurd cc
  works_held {k = k} (E.holds {n = m} {k = l} {p = q} {a = a} samples e few fine by held) is = record {
    breaks = take m breaks;
    stored = record {
      answer = a;
      holds = let same : l ≡ k = cc in subst (λ (j : ℕ). Holds Anywhere (take m breaks) answers links j a) same held;
      within = solved_within samples (take m breaks) penalty fine.some fine.fit_x fine.fit_y a q by;
      few = fine.few;
    };
  }

  -- what is handed on of each answer that the rows may hold is handed on of the run's
  pub works_handed : (room : ℕ) (row : Row) (c : Rows) {x : RunOutcome} {w : Result W.Worked Refusal} {n k : ℕ} {t : Tally} {h : Handed} → Works penalty breaks answers links x w →
      w ≡ Ok (Worked.Done n k t) → ((b : Row) (a : Statelet) → Holds Anywhere b answers links k a → h ≡ handing (chain_out room (E.solved a t)) row c) →
      h ≡ handing (chain_out room x) row c
  works_handed room row c (E.no e) is each = absurd cc
  works_handed room row c (E.stays e) is each = absurd cc
  works_handed room row c {k = k} (E.holds {n = m} {k = l} {a = a} samples e few fine by held) is each =
      let same : l ≡ k = cc in
      each (take m breaks) a (subst (λ (j : ℕ). Holds Anywhere (take m breaks) answers links j a) same held)
      ∙ ap (λ (q : Tally). handing (chain_out room (E.solved a q)) row c) (sym (ap tally_in (sym e ∙ is)))

pub readable_held : {answers : List (List Float)} {links : List ℕ} {w : Result W.Worked Refusal} {n k : ℕ} {t : Tally} → Readable answers links w → w ≡ Ok (Worked.Done n k t) → Held answers links k
readable_held r is = works_held r.works is

-- ---- a run, and a contour

pub of_breaks : (o : Outcome) (c : Rows) {h : Handed} {row row' : Row} → h ≡ handing o row c → row ≡ row' → h ≡ handing o row' c
of_breaks o c is e = is ∙ ap (λ (b : Row). handing o b c) e

module _ (rooms : Rooms) (settings : Settings) (c : Rows) (xs ys : List ℤ) (fs : List ℕ) where
  abbrev ran_of : Float → Survey → Outcome
  ran_of penalty s = chain_out (room_in c) (E.after_survey rooms.answers rooms.links penalty s)

  abbrev run_of : Option Run → Outcome
  run_of r = of_run rooms (room_in c) settings xs ys fs r

  -- what becomes of a run, by its survey
  pub survey_handed : (first count : ℕ) {g : Grid} {penalty : Float} (samples : List (List Float)) (breaks : Row) {r s : Result (Option Y.Surveyed) Refusal} {h : Handed} →
      g ≡ grid_of settings → penalty ≡ penalty_of settings →
      survey_of rooms.samples rooms.breaks xs ys fs first count g ≡ survey_in samples breaks r → r ≡ s →
      h ≡ handing (ran_of penalty (survey_in samples breaks s)) (carried xs ys fs first count (row_of (survey_in samples breaks s))) c →
      h ≡ handing (run_of (Some (record { first = first; count = count }))) (breaks_of rooms settings xs ys fs (Some (record { first = first; count = count }))) c
  unfolding work_of
  survey_handed first count {g} {penalty} samples breaks {r} {s} grid per-piece e as-s is =
      let survey = ap (survey_of rooms.samples rooms.breaks xs ys fs first count) (sym grid) ∙ e ∙ ap (survey_in samples breaks) as-s in
      is
      ∙ ap (λ (f : Float). handing (ran_of f (survey_in samples breaks s)) (carried xs ys fs first count (row_of (survey_in samples breaks s))) c) per-piece
      ∙ ap (λ (y : Survey). handing (ran_of (penalty_of settings) y) (carried xs ys fs first count (row_of y)) c) (sym survey)

  pub numbered_handed : (k : ℕ) {r s : Option Run} {h : Handed} → r ≡ numbered_run settings.closed xs ys fs k → r ≡ s →
      h ≡ handing (run_of s) (breaks_of rooms settings xs ys fs s) c →
      h ≡ handing (run_of (numbered_run settings.closed xs ys fs k)) (breaks_at rooms settings xs ys fs k) c
  numbered_handed k e as-s is = is ∙ ap (λ (r : Option Run). handing (run_of r) (breaks_of rooms settings xs ys fs r) c) (sym as-s ∙ e)

  pub judged_handed : (k : ℕ) {r s : Result Unit Refusal} {h : Handed} → r ≡ judged_for settings xs ys fs → r ≡ s →
      h ≡ handing (after_judging s (run_of (numbered_run settings.closed xs ys fs k))) (breaks_at rooms settings xs ys fs k) c →
      h ≡ handing (chain_of rooms (room_in c) settings xs ys fs k) (breaks_at rooms settings xs ys fs k) c
  unfolding chain_of
  judged_handed k e as-s is =
      is
      ∙ ap (λ (r : Result Unit Refusal). handing (after_judging r (run_of (numbered_run settings.closed xs ys fs k))) (breaks_at rooms settings xs ys fs k) c) (sym as-s ∙ e)

-- what is judged fine has at most 1,024 points
pub few_points : (settings : Settings) (xs ys : List ℤ) (fs : List ℕ) {r : Result Unit Refusal} → r ≡ judged_for settings xs ys fs → r ≡ Ok tt → length fs ≤ 1024
unfolding judged_for
few_points settings xs ys fs e is = (accepted xs ys fs (by (judged xs ys fs) (sym e ∙ is))).few
  where
    by : (j : Result Unit Refusal) → then_settings settings j ≡ Ok tt → j ≡ Ok tt
    by (Err k) h = h
    by (Ok _) h = refl

-- ---- the entry

abbrev answer_in : Handed → Result C.Chained Refusal
answer_in (handed r c) = r

abbrev rows_in : Handed → Rows
rows_in (handed r c) = c

module _ (o : Outcome) (breaks : Row) (c : Rows) {r : Result C.Chained Refusal} {c' : Rows} (e : handed r c' ≡ handing o breaks c) where
  pub answer_is : r ≡ answer_of o
  answer_is = ap answer_in e

  pub rows_are : c' ≡ rows_of o breaks c
  rows_are = ap rows_in e
