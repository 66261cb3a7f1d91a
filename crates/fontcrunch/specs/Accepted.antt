-- Demand 3, for the entries: the first `pieces` places of the chain rows that the chain entry leaves, with its score, are accepted by the
-- checker's entry for the same contour, settings, run and row lengths. Assumes nothing.
use Rattle.std.specs.Prelude.{ℕ, zero, suc, ◌+◌, Bool, true, false, List, [], ◌∷◌, map, ◌≡◌, refl, ltb, Float, ℤ, length, Option, Some, None, Result, Ok, Err}
use Rattle.std.proofs.Common.{arith, sym, ap, ◌∙◌, le-ltb, eq-eqb}
use Rattle.std.proofs.lemmas.List.{length-map}
use Rattle.refusals.specs.declared.refusal.Refusal.{Refusal}
use Rattle.runs.specs.declared.Run.{Run}
use Rattle.runs.specs.Runs.{numbered_run}
use Rattle.settings.specs.Settings.{grid_of, penalty_of, settings_of, judged_for}
use Rattle.settings.specs.declared.Settings.{Settings}
use Rattle.attempt.specs.Answers.{Statelet, score_of}
use Rattle.optimize.specs.declared.Tally.{Tally}
use Rattle.survey.specs.Survey.{survey_of}
use Rattle.chain.specs.Valid as Valid
use Rattle.chain.specs.declared.Piece.{Piece}
use Rattle.edition.specs.Edition.{RunOutcome, Rooms, answer_room, work_of}
use Rattle.edition.specs.Edition as Edition
use Rattle.edition.specs.Laws.{work_solved}
use Rattle.rows.specs.Lent.{Inputs, inputs}
use Rattle.edition.specs.Scratch.{rooms_of}
use Rattle.rows.specs.Rows.{Work}
use Rattle.pieces.specs.Slots.{chain}
use Rattle.chains.specs.Entry as ChainEntry
use Rattle.chains.specs.Determine.{places_of, chained_places}
use Rattle.checks.specs.Entry as CheckEntry
use Rattle.pieces.specs.Pieces.{pieces_of}
use Rattle.pieces.proofs.Accepted.{accepted_any}
use Rattle.chains.specs.Chains.{refused, unchanged, chained, over_if, chain_out, chain_of}
use Rattle.chains.specs.Chains as Chains
use Rattle.checks.specs.Checks.{GivenChain, check_of}
use Rattle.checks.specs.Checks as Checks

-- ---- a chain in rows is the chain

abbrev pub starts_of : List Piece → List ℕ
starts_of ps = map (λ (p : Piece). p.from) ps

abbrev pub ends_of : List Piece → List ℕ
ends_of ps = map (λ (p : Piece). p.to) ps

abbrev pub xs_of : List Piece → List Float
xs_of ps = map (λ (p : Piece). p.control.x) ps

abbrev pub ys_of : List Piece → List Float
ys_of ps = map (λ (p : Piece). p.control.y) ps

-- the chain that these rows and this score give
abbrev pub chain_from : List Piece → Float → GivenChain
chain_from ps score = record { starts = starts_of ps; ends = ends_of ps; xs = xs_of ps; ys = ys_of ps; score = score }

-- reading goes on in the rows without their first places
without_first : (a b : ℕ) (x y : Float) (starts ends : List ℕ) (xs ys : List Float) (k i : ℕ) →
    Valid.pieces_from (a ∷ starts) (b ∷ ends) (x ∷ xs) (y ∷ ys) k (suc i) ≡ Valid.pieces_from starts ends xs ys k i
unfolding Valid.pieces_from
without_first a b x y starts ends xs ys zero i = refl
without_first a b x y starts ends xs ys (suc k) i =
    let next : suc i + 1 ≡ suc (i + 1) = omega arith in
    ap (λ (l : List Piece). Valid.piece_at starts ends xs ys i ∷ l)
    (ap (Valid.pieces_from (a ∷ starts) (b ∷ ends) (x ∷ xs) (y ∷ ys) k) next ∙ without_first a b x y starts ends xs ys k (i + 1))

read_back : (ps : List Piece) → Valid.chain_in (starts_of ps) (ends_of ps) (xs_of ps) (ys_of ps) ≡ ps
unfolding Valid.pieces_from
read_back [] = refl
read_back (p ∷ ps) =
    ap (λ (l : List Piece). p ∷ l)
    (without_first p.from p.to p.control.x p.control.y (starts_of ps) (ends_of ps) (xs_of ps) (ys_of ps) (length (starts_of ps)) 0 ∙ read_back ps)

even : (ps : List Piece) → Valid.even_rows (starts_of ps) (ends_of ps) (xs_of ps) (ys_of ps) ≡ true
even ps =
    rw (
      length-map ps (λ (p : Piece). p.from),
      length-map ps (λ (p : Piece). p.to),
      length-map ps (λ (p : Piece). p.control.x),
      length-map ps (λ (p : Piece). p.control.y),
      eq-eqb (length ps) (length ps) refl,
    )

-- ---- one run

no_chain : {n : Refusal} {ps : List Piece} {s : Float} {t : Tally} {A : Type 0} → refused n ≡ chained ps s t → A
no_chain e = absurd cc

-- a chain that was written is the optimiser's
record Written (x : RunOutcome) (ps : List Piece) (score : Float) : Type 0 where
  answer : Statelet
  tally : Tally
  is : x ≡ Edition.solved answer tally
  pieces : pieces_of answer ≡ ps
  scored : score_of answer ≡ score

was_written : (room : ℕ) (x : RunOutcome) {ps : List Piece} {score : Float} {t : Tally} → chain_out room x ≡ chained ps score t → Written x ps score
was_written room (Edition.refused k) e = no_chain e
was_written room (Edition.unchanged k) e = absurd cc
was_written room (Edition.solved a q) {ps} {score} {t} e = by (ltb room (length (pieces_of a))) e
  where
    by : (b : Bool) → over_if b (pieces_of a) (score_of a) q ≡ chained ps score t → Written (Edition.solved a q) ps score
    by true f = no_chain f
    by false f = record { answer = a; tally = q; is = refl; pieces = cc; scored = cc }

module _ (rooms : Rooms) (room : ℕ) (settings : Settings) (xs ys : List ℤ) (fs : List ℕ) (ps : List Piece) (score : Float) (t : Tally) where
  abbrev penalty : Float
  penalty = penalty_of settings

  abbrev half : ℕ
  half = answer_room rooms.answers rooms.links

  accepted_rows : (samples : List (List Float)) (breaks : List (List Float)) → Valid.checked_chain samples breaks penalty ps score ≡ Some true →
      Valid.check_rows samples breaks penalty (starts_of ps) (ends_of ps) (xs_of ps) (ys_of ps) score ≡ Some true
  unfolding Valid.check_rows
  accepted_rows samples breaks e = rw (even ps, read_back ps) e

  accepted_run : (first count : ℕ) → chain_out room (work_of rooms (grid_of settings) penalty xs ys fs first count) ≡ chained ps score t →
      (Checks.of_survey half penalty (chain_from ps score) (survey_of rooms.samples rooms.breaks xs ys fs first count (grid_of settings))).verdict
      ≡ Ok true
  accepted_run first count e =
      let was = was_written room (work_of rooms (grid_of settings) penalty xs ys fs first count) e in
      let best = work_solved rooms (grid_of settings) penalty xs ys fs first count was.answer was.tally was.is in
      let fine = best.fine in
      let yes = accepted_any best.samples best.breaks penalty fine.some fine.fit_x fine.fit_y was.answer was.tally.pairs best.is in
      let same : Valid.checked_chain best.samples best.breaks penalty ps score ≡ (Some true) = rw (was.pieces, was.scored) at yes in
      rw (best.survey, le-ltb half (length best.breaks) best.room, accepted_rows best.samples best.breaks same) refl

  -- ---- the whole

  accepted_number : (r : Option Run) → Chains.of_run rooms room settings xs ys fs r ≡ chained ps score t →
      (Checks.of_run half settings (chain_from ps score) rooms.samples rooms.breaks xs ys fs r).verdict ≡ Ok true
  accepted_number None e = no_chain e
  accepted_number (Some r) e = accepted_run r.first r.count e

  pub accepted_chain : (k : ℕ) → chain_of rooms room settings xs ys fs k ≡ chained ps score t →
      (check_of rooms settings xs ys fs (chain_from ps score) k).verdict ≡ Ok true
  unfolding chain_of check_of
  accepted_chain k e = by (judged_for settings xs ys fs) e
    where
      by : (j : Result Unit Refusal) → Chains.after_judging j (Chains.of_run rooms room settings xs ys fs (numbered_run settings.closed xs ys fs k)) ≡ chained ps score t →
          (Checks.after_judging j
          (Checks.of_run half settings (chain_from ps score) rooms.samples rooms.breaks xs ys fs (numbered_run settings.closed xs ys fs k))
          ).verdict ≡ Ok true
      by (Err n) f = no_chain f
      by (Ok _) f = accepted_number (numbered_run settings.closed xs ys fs k) f

-- ---- the entries: what the chain entry leaves in its rows, checked in scratch rows of the same lengths

-- four rows with a score: the checker does not look at the segments
abbrev pub given_by : ChainEntry.Rows → Float → GivenChain
given_by (ChainEntry.rows (chain starts ends xs ys) spans) score = record { starts = starts; ends = ends; xs = xs; ys = ys; score = score }

-- the rows that the chain entry leaves
abbrev pub left_by : Inputs → Settings → ℕ → ChainEntry.Rows → Work → ChainEntry.Rows
left_by i settings k c w = ChainEntry.rows_of (ChainEntry.whole_of i settings k c w) (ChainEntry.breaks_in i settings k w) c

pub demand_three : (i : Inputs) (settings : Settings) (k : ℕ) (c : ChainEntry.Rows) (w w' : Work) (ps : List Piece) (score : Float) (tally : Tally) →
    rooms_of w ≡ rooms_of w' → ChainEntry.whole_of i settings k c w ≡ chained ps score tally →
    (CheckEntry.whole_of i settings k (given_by (places_of (length ps) (left_by i settings k c w)) score) w').verdict ≡ Ok true
demand_three (inputs xs ys fs) settings k c w w' ps score tally same e =
    rw (e, chained_places ps score tally (ChainEntry.breaks_in (inputs xs ys fs) settings k w) c, sym same)
    (accepted_chain (rooms_of w) (ChainEntry.room_in c) settings xs ys fs ps score tally k e)

-- ---- one proof, read for each profile and each mode

abbrev pub DemandThree : Settings → Type 0
DemandThree settings =
    (i : Inputs) (k : ℕ) (c : ChainEntry.Rows) (w w' : Work) (ps : List Piece) (score : Float) (tally : Tally) → rooms_of w ≡ rooms_of w' →
    ChainEntry.whole_of i settings k c w ≡ chained ps score tally →
    (CheckEntry.whole_of i settings k (given_by (places_of (length ps) (left_by i settings k c w)) score) w').verdict ≡ Ok true

pub on_half_units : (penalty closed : ℕ) → DemandThree (settings_of penalty 0 closed)
on_half_units penalty closed i = demand_three i (settings_of penalty 0 closed)

pub on_whole_units_lem : (penalty closed : ℕ) → DemandThree (settings_of penalty 1 closed)
on_whole_units_lem penalty closed i = demand_three i (settings_of penalty 1 closed)

pub in_crates_mode : (penalty whole : ℕ) → DemandThree (settings_of penalty whole 0)
in_crates_mode penalty whole i = demand_three i (settings_of penalty whole 0)

pub in_closed_mode_lem : (penalty whole : ℕ) → DemandThree (settings_of penalty whole 1)
in_closed_mode_lem penalty whole i = demand_three i (settings_of penalty whole 1)
