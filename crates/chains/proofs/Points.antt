-- The points of a contour that comes out are those of its runs' chains: `PointsAreChains` of specs/Points. Assumes nothing.
use Rattle.std.specs.Prelude.{Some, Result, Ok, Err}
use Rattle.refusals.specs.declared.refusal.Refusal.{Refusal}
use Prim.Native.Nat.{ℕ, zero, suc, ◌+◌, ◌<◌}
use native.Mathlib.Omega.{arith}
use mathlib.Core.Bool.{Bool, true, false}
use mathlib.Core.List.{List, [], ◌∷◌, ◌++◌, append_assoc, append-nil}
use mathlib.Core.Path.{◌≡◌, refl, sym, ap, ◌∙◌, subst}
use borrow.Author.Tests.{le-ltb}
use lib.Dec.{ltb}
use lib.IntN.{ℤ}
use lib.ListN.{length, get_or}
use Rattle.outline.specs.Segments.{start_of, seg_at}
use Rattle.runs.specs.Runs.{between, stops_of, runs_of, run_at, is_copied, unless_copied, numbered_run}
use Rattle.runs.specs.declared.Run.{Run}
use Rattle.settings.specs.Settings.{grid_of, penalty_of, judged_for}
use Rattle.settings.specs.declared.Settings.{Settings}
use Rattle.attempt.specs.Answers.{Statelet, score_of}
use Rattle.optimize.specs.Optimize.{measure_by}
use Rattle.optimize.specs.Tally.{untried, plus}
use Rattle.optimize.specs.declared.Tally.{Tally}
use Rattle.edition.specs.Edition.{RunOutcome, Rooms}
use Rattle.edition.specs.Edition as Edition
use Rattle.edition.specs.Laws.{work_solved}
use Rattle.contour.specs.Points.{Points, points_of, pieces_points, point_as, start_point}
use Rattle.contour.specs.Implied.{finished}
use Rattle.pieces.specs.Pieces.{pieces_of}
use Rattle.pieces.specs.Slots.{quads_of}
use Rattle.pieces.proofs.Drawn.{quads_drawn}
use Rattle.pieces.proofs.Accepted.{accepted_any}
use Rattle.assembly.specs.Assembly.{State, added, closed_up, itself, result_of, run_if, after_run, crunch_all, crunch_in, crunch_runs}
use Rattle.assembly.specs.Laws.{stays_refused, stays_ended}
use Rattle.crunch.specs.Crunch.{crunched, over_if, outcome_of, after_judging, crunch_of}
use Rattle.chains.specs.Chains as Chains
use Rattle.chains.specs.Chains.{of_run, chain_out, chain_of}
use Rattle.chains.specs.Points.{all_of, Adds, by_chain, by_copy, joined_in, Left, by_run, no_corner, ComesOut, of_runs, left, PointsAreChains}

module _ (rooms : Rooms) (settings : Settings) (xs ys : List ℤ) (fs : List ℕ) (fine : judged_for settings xs ys fs ≡ Ok tt) where
  abbrev runs : List Run
  runs = runs_of settings.closed xs ys fs

  -- ---- the chain entry on run k

  chain_is : (room k : ℕ) → chain_of rooms room settings xs ys fs k ≡ of_run rooms room settings xs ys fs (numbered_run settings.closed xs ys fs k)
  unfolding chain_of
  chain_is room k = ap (λ (j : Result Unit Refusal). Chains.after_judging j (of_run rooms room settings xs ys fs (numbered_run settings.closed xs ys fs k))) fine

  module _ (k : ℕ) (r : Run) (at : run_at runs k ≡ Some (record { first = r.first; count = r.count })) where
    numbered : (b : Bool) → is_copied xs ys fs (Some r) ≡ b → numbered_run settings.closed xs ys fs k ≡ unless_copied b (Some r)
    unfolding numbered_run
    numbered b e = rw (at, e) refl

    worked_is : (room : ℕ) → is_copied xs ys fs (Some r) ≡ false → (x : RunOutcome) → result_of rooms settings xs ys fs r ≡ x →
        chain_of rooms room settings xs ys fs k ≡ chain_out room x
    worked_is room e x is = chain_is room k ∙ ap (of_run rooms room settings xs ys fs) (numbered false e) ∙ ap (chain_out room) is

    copy_adds : is_copied xs ys fs (Some r) ≡ true → Adds rooms settings xs ys fs k (points_of (seg_at xs ys fs r.first))
    copy_adds e = by_copy (record {
      first = r.first;
      count = r.count;
      run = at;
      copied = e;
      no_chain = λ room. chain_is room k ∙ ap (of_run rooms room settings xs ys fs) (numbered true e);
      points = refl;
    })

    chain_adds : is_copied xs ys fs (Some r) ≡ false → (a : Statelet) (t : Tally) → result_of rooms settings xs ys fs r ≡ Edition.solved a t →
        Adds rooms settings xs ys fs k (pieces_points (quads_of a))
    chain_adds e a t is =
        let o = work_solved rooms (grid_of settings) (penalty_of settings) xs ys fs r.first r.count a t is in
        by_chain (record {
          first = r.first;
          count = r.count;
          run = numbered false e;
          samples = o.samples;
          breaks = o.breaks;
          survey = o.survey;
          pieces = pieces_of a;
          score = score_of a;
          tally = t;
          chain = λ room h. worked_is room e (Edition.solved a t) is ∙ ap (λ (b : Bool). Chains.over_if b (pieces_of a) (score_of a) t) (le-ltb room (length (pieces_of a)) h);
          accepted = accepted_any o.samples o.breaks (penalty_of settings) o.fine.some o.fine.fit_x o.fine.fit_y a t.pairs o.is;
          points = ap pieces_points (quads_drawn (measure_by o.samples o.breaks) o.breaks (penalty_of settings) a t.pairs o.is);
        })

  -- ---- the runs from run o on, after the points so far

  data Walked (o : ℕ) (rs : List Run) (ps : Points) : State → Type 0 where
    refuses : {n : Refusal} → Walked o rs ps (State.refused n)
    ends : {t : Tally} → Left rooms settings xs ys fs → Walked o rs ps (State.ended (itself rooms settings xs ys fs) t)
    goes : {t : Tally} (parts : List Points) → length parts ≡ length rs → ((k : ℕ) → k < length parts → Adds rooms settings xs ys fs (o + k) (get_or parts k [])) →
        Walked o rs ps (State.going (ps ++ all_of parts) t)

  more : (o : ℕ) (r : Run) (rs : List Run) (ps part : Points) {s : State} → Adds rooms settings xs ys fs o part → Walked (o + 1) rs (ps ++ part) s → Walked o (r ∷ rs) ps s
  unfolding all_of
  more o r rs ps part a refuses = refuses
  more o r rs ps part a (ends l) = ends l
  more o r rs ps part a (goes {t} parts long each) =
      subst (λ (q : Points). Walked o (r ∷ rs) ps (State.going q t)) (sym (append_assoc ps part (all_of parts))) (goes {t = t} (part ∷ parts) (ap suc long) here)
    where
      here : (k : ℕ) → k < length (part ∷ parts) → Adds rooms settings xs ys fs (o + k) (get_or (part ∷ parts) k [])
      here zero h = let z : o + 0 ≡ o = omega arith in rw z a
      here (suc k) h = let z : o + suc k ≡ o + 1 + k = omega arith in rw z (each k (omega arith))

  -- one run more, and whatever follows it
  module _ (o : ℕ) (r : Run) (rs : List Run) (here : run_at runs o ≡ Some (record { first = r.first; count = r.count })) (ps : Points) (t : Tally)
      (again : (qs : Points) (u : Tally) → Walked (o + 1) rs qs (crunch_all rooms settings xs ys fs rs (State.going qs u))) where
    worked : is_copied xs ys fs (Some r) ≡ false → (x : RunOutcome) → result_of rooms settings xs ys fs r ≡ x →
        Walked o (r ∷ rs) ps (crunch_all rooms settings xs ys fs rs (added (itself rooms settings xs ys fs) x ps t))
    worked e (Edition.refused n) is = rw (stays_refused rooms settings xs ys fs rs n) refuses
    worked e (Edition.unchanged u) is =
        rw (stays_ended rooms settings xs ys fs rs (itself rooms settings xs ys fs) (plus t u)) (ends (by_run o u (λ room. worked_is o r here room e (Edition.unchanged u) is)))
    worked e (Edition.solved a u) is = more o r rs ps (pieces_points (quads_of a)) (chain_adds o r here e a u is) (again (ps ++ pieces_points (quads_of a)) (plus t u))

    by : (b : Bool) → is_copied xs ys fs (Some r) ≡ b → Walked o (r ∷ rs) ps (crunch_all rooms settings xs ys fs rs (run_if rooms settings xs ys fs b r ps t))
    by true e = more o r rs ps (points_of (seg_at xs ys fs r.first)) (copy_adds o r here e) (again (ps ++ points_of (seg_at xs ys fs r.first)) t)
    by false e = worked e (result_of rooms settings xs ys fs r) refl

  walks : (rs : List Run) (o : ℕ) → ((k : ℕ) → run_at rs k ≡ run_at runs (o + k)) → (ps : Points) (t : Tally) → Walked o rs ps (crunch_all rooms settings xs ys fs rs (State.going ps t))
  unfolding crunch_all after_run run_at all_of
  walks [] o at ps t = subst (λ (q : Points). Walked o [] ps (State.going q t)) (append-nil ps) (goes {t = t} [] refl (λ k h. absurd (omega arith)))
  walks (r ∷ rs) o at ps t =
      let z : o + 0 ≡ o = omega arith in
      by o r rs (sym (at 0 ∙ ap (run_at runs) z)) ps t (λ qs u. walks rs (o + 1) (λ k. at (suc k) ∙ ap (run_at runs) (shifted o k)) qs u) (is_copied xs ys fs (Some r)) refl
    where
      shifted : (o k : ℕ) → o + suc k ≡ o + 1 + k
      shifted o k = omega arith

  -- ---- the end

  crunched_is : (closed b : Bool) (ps out : Points) (t u : Tally) → over_if closed b ps t ≡ crunched out u → out ≡ finished closed ps
  crunched_is closed true ps out t u e = absurd cc
  crunched_is closed false ps out t u e = cc

  module _ (room : ℕ) (out : Points) (t : Tally) where
    abbrev Comes : Type 0
    Comes = ComesOut rooms settings xs ys fs out

    out_is : (ps : Points) (u : Tally) → over_if settings.closed (ltb room (length ps)) ps u ≡ crunched out t → out ≡ finished settings.closed ps
    out_is ps u e = crunched_is settings.closed (ltb room (length ps)) ps out u t e

    -- what the points so far are put into
    ends_so : (c : Bool) → settings.closed ≡ c → (wrap : State → State) (start : Points) {s : State} → Walked 0 runs start s →
        ((n : Refusal) → wrap (State.refused n) ≡ State.refused n) →
        ((ps : Points) (u : Tally) → wrap (State.ended ps u) ≡ State.ended ps u) →
        ((ps : Points) (u : Tally) → wrap (State.going (start ++ ps) u) ≡ State.going (joined_in rooms settings xs ys fs c ps) u) →
        outcome_of settings.closed room (wrap s) ≡ crunched out t → Comes
    ends_so c is wrap start (refuses {n}) refusing ending going e =
        let f : outcome_of settings.closed room (State.refused n) ≡ crunched out t = subst (λ (x : State). outcome_of settings.closed room x ≡ crunched out t) (refusing n) e in
        absurd cc
    ends_so c is wrap start (ends {t = u} l) refusing ending going e =
        left l (out_is (itself rooms settings xs ys fs) u
        (subst (λ (x : State). outcome_of settings.closed room x ≡ crunched out t) (ending (itself rooms settings xs ys fs) u) e))
    ends_so c is wrap start (goes {t = u} parts long each) refusing ending going e = of_runs (record {
      parts = parts;
      all = long;
      each = λ k h. let z : 0 + k ≡ k = omega arith in rw z at (each k h);
      is = rw is (rw is at (out_is (joined_in rooms settings xs ys fs c (all_of parts)) u
          (subst (λ (x : State). outcome_of settings.closed room x ≡ crunched out t) (going (all_of parts) u) e)));
    })

    all_runs : (k : ℕ) → run_at runs k ≡ run_at runs (0 + k)
    all_runs k = let z : 0 + k ≡ k = omega arith in rw z refl

    walks_runs : (start : Points) → Walked 0 runs start (crunch_all rooms settings xs ys fs runs (State.going start untried))
    walks_runs start = walks runs 0 all_runs start untried

    crate's : settings.closed ≡ false → outcome_of settings.closed room (crunch_in rooms settings xs ys fs false (stops_of settings.closed xs ys fs)) ≡ crunched out t → Comes
    unfolding runs_of
    crate's is e = ends_so false is (λ s. s) (start_point xs ys ∷ []) (walks_runs (start_point xs ys ∷ [])) (λ n. refl) (λ ps u. refl) (λ ps u. refl) e

    round : settings.closed ≡ true → (stops : List ℕ) → stops_of settings.closed xs ys fs ≡ stops →
        outcome_of settings.closed room (crunch_in rooms settings xs ys fs true stops) ≡ crunched out t → Comes
    unfolding runs_of
    round is [] at e = left (no_corner is (subst (λ (c : Bool). stops_of c xs ys fs ≡ []) is at)) (out_is (itself rooms settings xs ys fs) untried e)
    round is (a ∷ stops) at e =
        let start = point_as true xs ys (start_of fs a) in
        let first : get_or (stops_of true xs ys fs) 0 0 ≡ a = ap (λ (l : List ℕ). get_or l 0 0) (subst (λ (c : Bool). stops_of c xs ys fs ≡ a ∷ stops) is at) in
        ends_so true is (closed_up start) [] (walks_runs []) (λ n. refl) (λ ps u. refl) (λ ps u. rw first refl)
        (subst (λ (l : List ℕ). outcome_of settings.closed room (closed_up start (crunch_all rooms settings xs ys fs (between l) (State.going [] untried))) ≡ crunched out t) (sym at) e)

    modes : (c : Bool) → settings.closed ≡ c → outcome_of settings.closed room (crunch_in rooms settings xs ys fs c (stops_of settings.closed xs ys fs)) ≡ crunched out t → Comes
    modes true is e = round is (stops_of settings.closed xs ys fs) refl e
    modes false is e = crate's is e

    comes : outcome_of settings.closed room (crunch_runs rooms settings xs ys fs) ≡ crunched out t → Comes
    unfolding crunch_runs
    comes e = modes settings.closed refl e

judged_comes : (rooms : Rooms) (room : ℕ) (settings : Settings) (xs ys : List ℤ) (fs : List ℕ) (out : Points) (t : Tally) (j : Result Unit Refusal) → judged_for settings xs ys fs ≡ j →
    after_judging j (outcome_of settings.closed room (crunch_runs rooms settings xs ys fs)) ≡ crunched out t → ComesOut rooms settings xs ys fs out
judged_comes rooms room settings xs ys fs out t (Err n) is e = absurd cc
judged_comes rooms room settings xs ys fs out t (Ok _) is e = comes rooms settings xs ys fs is room out t e

pub points_are_chains : PointsAreChains
unfolding crunch_of
points_are_chains rooms room settings xs ys fs out t e = judged_comes rooms room settings xs ys fs out t (judged_for settings xs ys fs) refl e
