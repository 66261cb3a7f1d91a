-- Document 01's wrong versions, each refuted on the definitions: no function with the fault gives what the definition gives. Two of the seven are edits
-- of code instead: crunches_only_the_first_run (crate assembly) and another_number_of_pairs (crate edition). Assumes nothing.
use Rattle.std.specs.Prelude.{ℕ, zero, suc, ◌-◌, Bool, true, false, ◌≡◌, refl, ltb, Float, ℤ, pos, length, Option, Some, None, Result, Ok, Err}
use Rattle.std.proofs.Common.{arith, sym, ap, subst, ◌∙◌, ne_eqb}
use mathlib.Core.List.{List, [], ◌∷◌, Memᴰ}
use Rattle.refusals.specs.Refusals.{off_neighbours, judged}
use Rattle.refusals.specs.declared.refusal.Refusal.{Refusal}
use Rattle.rows.specs.Lent.{Inputs, inputs}
use Rattle.outline.specs.Segments.{count_of, place_after, seg_from}
use Rattle.runs.specs.declared.Run.{Run}
use Rattle.runs.specs.Runs.{numbered_run}
use Rattle.settings.specs.Settings.{crate_settings, penalty_of, grid_of, judged_for}
use Rattle.survey.specs.Survey.{Survey, survey_of}
use Rattle.chain.specs.Valid as Valid
use Rattle.chain.specs.Fallen.{fallen_rows}
use Rattle.chain.specs.declared.Piece.{Piece}
use Rattle.optimize.specs.declared.Tally.{Tally}
use Rattle.edition.specs.Edition.{answer_room}
use Rattle.edition.specs.Scratch.{full_rooms}
use Rattle.contour.specs.Points.{Points, points_to, unchanged_points}
use Rattle.contour.specs.Implied.{is_implied, implied_at, look, drop_from, finished}
use Rattle.crunch.specs.Crunch.{Outcome, refused, crunched, crunch_of}
use Rattle.chains.specs.Chains.{chained, chain_of}
use Rattle.checks.specs.Checks.{GivenChain, check_of}
use Rattle.checks.specs.Checks as Checks
use Rattle.checks.specs.declared.Ruling.{Ruling}
use Rattle.fontcrunch.specs.Accepted.{chain_from, accepted_chain}
use Rattle.fontcrunch.specs.Table.{outcome, gives, shown_at_once, on}

-- ---- crunching, in rows with document 01's full rooms

abbrev pub crunch_whole : Inputs → Outcome
crunch_whole (inputs xs ys fs) = crunch_of full_rooms 16384 crate_settings xs ys fs

-- what a version gives for a contour: so many points
pub record Gives (n : ℕ) (o : Outcome) : Type 0 where
  pub points : Points
  pub tally : Tally
  pub is : o ≡ crunched points tally
  pub many : length points ≡ n

pub record Refuses (o : Outcome) : Type 0 where
  pub reason : Refusal
  pub is : o ≡ refused reason

-- one on-curve point, (7, 9): it comes out alone
abbrev point : Inputs
point = inputs (pos 7 ∷ []) (pos 9 ∷ []) (1 ∷ [])

point_out : outcome (crunch_whole point) ≡ gives (on (pos 7) (pos 9) ∷ []) 0
point_out = shown_at_once _ (Memᴰ.head refl)

-- three points, of which the closing curve is lost: two come out
abbrev lost : Inputs
lost = inputs (pos 0 ∷ pos 100 ∷ pos 50 ∷ []) (pos 0 ∷ pos 0 ∷ pos 100 ∷ []) (1 ∷ 1 ∷ 0 ∷ [])

lost_out : outcome (crunch_whole lost) ≡ gives (on (pos 100) (pos 0) ∷ on (pos 0) (pos 0) ∷ []) 0
lost_out = shown_at_once _ (Memᴰ.tail (Memᴰ.tail (Memᴰ.head refl)))

point_fine : judged (pos 7 ∷ []) (pos 9 ∷ []) (1 ∷ []) ≡ Ok tt
unfolding judged off_neighbours
point_fine = refl

lost_fine : judged (pos 0 ∷ pos 100 ∷ pos 50 ∷ []) (pos 0 ∷ pos 0 ∷ pos 100 ∷ []) (1 ∷ 1 ∷ 0 ∷ []) ≡ Ok tt
unfolding judged off_neighbours
lost_fine = refl

-- unchanged, it would come out twice: the closing line is a segment of its own
point_twice : length (finished false (unchanged_points (pos 7 ∷ []) (pos 9 ∷ []) (1 ∷ []))) ≡ 2
unfolding points_to count_of place_after seg_from drop_from look implied_at is_implied
point_twice = refl

not_refused : (o : Outcome) (ps : Points) (p : ℕ) → outcome o ≡ gives ps p → Refuses o → ⊥
not_refused o ps p e r =
    let f : outcome (refused r.reason) ≡ gives ps p = ap outcome (sym r.is) ∙ e in
    absurd cc

not_so_many : (o : Outcome) (ps : Points) (p n : ℕ) → outcome o ≡ gives ps p → (length ps ≡ n → ⊥) → Gives n o → ⊥
not_so_many o ps p n e other g =
    let f : outcome (crunched g.points g.tally) ≡ gives ps p = ap outcome (sym g.is) ∙ e in
    let same : g.points ≡ ps = cc in
    other (ap length (sym same) ∙ g.many)

pub refuses_everything : (f : Inputs → Outcome) → ((i : Inputs) → f i ≡ crunch_whole i) → ((i : Inputs) → Refuses (f i)) → ⊥
refuses_everything f right wrong = not_refused (f point) (on (pos 7) (pos 9) ∷ []) 0 (ap outcome (right point) ∙ point_out) (wrong point)

-- every contour that is worked comes out as it came
pub calls_everything_unchanged : (f : Inputs → Outcome) → ((i : Inputs) → f i ≡ crunch_whole i) →
    ((xs ys : List ℤ) (fs : List ℕ) → judged xs ys fs ≡ Ok tt → Gives (length (finished false (unchanged_points xs ys fs))) (f (inputs xs ys fs))) → ⊥
calls_everything_unchanged f right wrong =
    let two = subst (λ (n : ℕ). Gives n (f point)) point_twice (wrong (pos 7 ∷ []) (pos 9 ∷ []) (1 ∷ []) point_fine) in
    not_so_many (f point) (on (pos 7) (pos 9) ∷ []) 0 2 (ap outcome (right point) ∙ point_out) (λ (e : _). absurd (omega (arith, e))) two

-- as many points as came in, in whatever order and with whatever flags
pub copies_its_input : (f : Inputs → Outcome) → ((i : Inputs) → f i ≡ crunch_whole i) →
    ((xs ys : List ℤ) (fs : List ℕ) → judged xs ys fs ≡ Ok tt → Gives (length xs) (f (inputs xs ys fs))) → ⊥
copies_its_input f right wrong =
    not_so_many (f lost) (on (pos 100) (pos 0) ∷ on (pos 0) (pos 0) ∷ []) 0 3 (ap outcome (right lost) ∙ lost_out) (λ (e : _). absurd (omega (arith, e)))
    (wrong (pos 0 ∷ pos 100 ∷ pos 50 ∷ []) (pos 0 ∷ pos 0 ∷ pos 100 ∷ []) (1 ∷ 1 ∷ 0 ∷ []) lost_fine)

-- ---- checking a chain

abbrev pub check_whole : Inputs → ℕ → GivenChain → Ruling
check_whole (inputs xs ys fs) k c = check_of full_rooms crate_settings xs ys fs c k

-- a chain without a piece, and any score
abbrev pub no_piece : Float → GivenChain
no_piece score = record { starts = []; ends = []; xs = []; ys = []; score = score }

no_piece_lem : (n : ℕ) → Valid.joined n [] ≡ false
unfolding Valid.leads
no_piece_lem zero = refl
no_piece_lem (suc n) = ne_eqb 0 (suc n) (λ (e : 0 ≡ suc n). absurd (omega (arith, e)))

no_piece_no : (samples : List (List Float)) (breaks : List (List Float)) (penalty score : Float) →
    Valid.check_rows samples breaks penalty [] [] [] [] score ≡ Some false
unfolding Valid.check_rows Valid.checked_chain Valid.good_shape Valid.pieces_from
no_piece_no samples breaks penalty score = rw (no_piece_lem (length breaks - 1)) refl

never_yes : (half : ℕ) (penalty score : Float) (s : Survey) → (Checks.of_survey half penalty (no_piece score) s).verdict ≡ Ok true → ⊥
never_yes half penalty score (Survey.refused k) e = absurd cc
never_yes half penalty score Survey.past e = absurd cc
never_yes half penalty score (Survey.surveyed samples breaks) e = by (ltb half (length breaks)) e
  where
    by : (b : Bool) → (Checks.unless_short b
        (Checks.ruling (Checks.verdict_of (Valid.check_rows samples breaks penalty [] [] [] [] score))
        (fallen_rows samples breaks penalty [] [] [] []))).verdict ≡ Ok true → ⊥
    by true f = absurd cc
    by false f =
        let g : ◌≡◌ {A = Result Bool Refusal} (Ok false) (Ok true) = rw (no_piece_no samples breaks penalty score) at f in
        absurd cc

-- of no contour, no run and no score is a chain without a piece accepted
pub says_always_yes : (f : Inputs → ℕ → GivenChain → Ruling) → ((i : Inputs) (k : ℕ) (c : GivenChain) → f i k c ≡ check_whole i k c) →
    (i : Inputs) (k : ℕ) (score : Float) → (f i k (no_piece score)).verdict ≡ Ok true → ⊥
unfolding check_of
says_always_yes f right (inputs xs ys fs) k score e =
    judging (judged_for crate_settings xs ys fs) (ap (λ (v : Ruling). v.verdict) (sym (right (inputs xs ys fs) k (no_piece score))) ∙ e)
  where
    says : Option Run → Ruling
    says r = Checks.of_run (answer_room 4096 4096) crate_settings (no_piece score) 16384 2048 xs ys fs r

    running : (r : Option Run) → (says r).verdict ≡ Ok true → ⊥
    running None g = absurd cc
    running (Some r) g =
        never_yes (answer_room 4096 4096) (penalty_of crate_settings) score (survey_of 16384 2048 xs ys fs r.first r.count (grid_of crate_settings)) g

    judging : (j : Result Unit Refusal) → (Checks.after_judging j (says (numbered_run false xs ys fs k))).verdict ≡ Ok true → ⊥
    judging (Err n) g = absurd cc
    judging (Ok _) g = running (numbered_run false xs ys fs k) g

-- whatever run the optimiser has a chain for, that chain is accepted
pub says_always_no : (f : Inputs → ℕ → GivenChain → Ruling) → ((i : Inputs) (k : ℕ) (c : GivenChain) → f i k c ≡ check_whole i k c) →
    (xs ys : List ℤ) (fs : List ℕ) (k room : ℕ) (ps : List Piece) (score : Float) (tally : Tally) →
    chain_of full_rooms room crate_settings xs ys fs k ≡ chained ps score tally → (f (inputs xs ys fs) k (chain_from ps score)).verdict ≡ Ok false → ⊥
says_always_no f right xs ys fs k room ps score tally e denied =
    let accepted = accepted_chain full_rooms room crate_settings xs ys fs ps score tally k e in
    let both : ◌≡◌ {A = Result Bool Refusal} (Ok true) (Ok false) = sym accepted ∙ ap (λ (v : Ruling). v.verdict) (sym (right (inputs xs ys fs) k (chain_from ps score))) ∙ denied in
    absurd cc

-- one run has such a chain (proofs/Solved), so that no checker which is right says always no
abbrev pub NeverAlwaysNo : Type 0
NeverAlwaysNo =
    (f : Inputs → ℕ → GivenChain → Ruling) → ((i : Inputs) (k : ℕ) (c : GivenChain) → f i k c ≡ check_whole i k c) →
    ((i : Inputs) (k : ℕ) (c : GivenChain) → (f i k c).verdict ≡ Ok false) → ⊥
