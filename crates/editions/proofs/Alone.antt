-- What an edition does by itself: its beginning, its end, and the whole of it, which is what the crunch entry's definition gives. Assumes nothing.
use Rattle.std.specs.Prelude.{Result, Ok, Err}
use Prim.Native.Nat.{ℕ}
use native.Mathlib.Omega.{arith}
use mathlib.Core.Bool.{Bool, true, false, not}
use mathlib.Core.List.{List, [], ◌∷◌}
use mathlib.Core.Path.{◌≡◌, refl, sym, ap, subst, ◌∙◌}
use lib.IntN.{ℤ}
use lib.ListN.{length, get_or}
use Rattle.outline.specs.Segments.{start_of}
use Rattle.refusals.specs.Refusals.{judged, refuse}
use Rattle.refusals.specs.declared.refusal.Refusal.TheVariants.{NoSuchPenalty}
use Rattle.refusals.specs.declared.refusal.Refusal.{Refusal}
use Rattle.runs.specs.Runs.{between, stops_of}
use Rattle.settings.specs.Settings.{settings_fine, then_settings, judged_for}
use Rattle.settings.specs.declared.Settings.{Settings}
use Rattle.edition.specs.Edition.{Rooms}
use Rattle.contour.specs.Points.{Points, point_as, start_point, unchanged_in}
use Rattle.contour.specs.Writing.{Wrote, written}
use Rattle.contour.specs.Laws.{nothing_written}
use Rattle.contour.specs.declared.Written.{Written}
use Rattle.optimize.specs.Tally.{untried}
use Rattle.assembly.specs.Assembly.{State, refused, closed_up, crunch_all, crunch_in, crunch_runs}
use Rattle.assembly.specs.Laws.{stays_refused, stays_ended}
use Rattle.assembly.specs.Stands.{Stands, goes}
use Rattle.assembly.specs.Stands as S
use Rattle.assembly.specs.declared.Crunching as C
use Rattle.assembly.specs.declared.Crunching.TheVariants as Crunching
use Rattle.crunch.specs.Crunch.{Outcome, outcome_of, after_judging, crunch_of}
use Rattle.crunch.specs.Stands.{Gives, no}
use Rattle.crunch.specs.declared.Crunched as D
use Rattle.editions.specs.Editions.{begins_in, begins, ends, worked_on, work_of}
use Rattle.editions.specs.Stands.{Carries, Begins, Stood, Comes}

module _ (settings : Settings) (xs ys : List ℤ) (fs stops : List ℕ) {room : ℕ} {row : Points} where
  -- ---- `begin`

  pub begins_refused : {fine : Bool} → fine ≡ settings_fine settings → fine ≡ false →
      Begins room row (begins settings xs ys fs (settings_fine settings) stops) (Err NoSuchPenalty)
  begins_refused is e =
      subst (λ (b : Bool). Begins room row (begins settings xs ys fs b stops) (Err NoSuchPenalty)) (sym e ∙ is) (record { stands = S.stops refl; none = refl })

  fine_begins : {fine : Bool} → fine ≡ settings_fine settings → fine ≡ true → {mode : Bool} → settings.closed ≡ mode → {r : Result C.Crunching Refusal} →
      Begins room row (begins_in settings xs ys fs mode stops) r → Begins room row (begins settings xs ys fs (settings_fine settings) stops) r
  fine_begins is e mode {r} b =
      subst (λ (x : Bool). Begins room row (begins settings xs ys fs x stops) r) (sym e ∙ is)
      (subst (λ (m : Bool). Begins room row (begins_in settings xs ys fs m stops) r) (sym mode) b)

  pub begins_start : {fine : Bool} → fine ≡ settings_fine settings → fine ≡ true → settings.closed ≡ false → {w : Written} →
      Wrote row w (written room (start_point xs ys ∷ [])) →
      Begins room row (begins settings xs ys fs (settings_fine settings) stops) (Ok (Crunching.Going (record { w = w; tally = untried })))
  begins_start is e mode wrote = fine_begins is e mode (record { stands = goes refl wrote refl; none = refl })

module _ (settings : Settings) (xs ys : List ℤ) (fs : List ℕ) where
  ends_closed : (stops : List ℕ) → length stops ≡ 0 → {room : ℕ} {row : Points} {w : Written} → Wrote row w (written room (unchanged_in xs ys fs settings.closed)) →
      Begins room row (begins_in settings xs ys fs true stops) (Ok (Crunching.Ended (record { w = w; tally = untried })))
  ends_closed [] e wrote = record { stands = S.ends refl wrote refl; none = refl }
  ends_closed (a ∷ stops) e wrote = absurd (omega (arith, e))

  pub begins_ended : (stops : List ℕ) {fine : Bool} → fine ≡ settings_fine settings → fine ≡ true → settings.closed ≡ true → length stops ≡ 0 →
      {room : ℕ} {row : Points} {w : Written} → Wrote row w (written room (unchanged_in xs ys fs settings.closed)) →
      Begins room row (begins settings xs ys fs (settings_fine settings) stops) (Ok (Crunching.Ended (record { w = w; tally = untried })))
  begins_ended stops is e mode none wrote = fine_begins settings xs ys fs stops is e mode (ends_closed stops none wrote)

  goes_closed : (stops : List ℕ) → (length stops ≡ 0 → ⊥) → {row : Points} {w : Written} → w ≡ record { count = 0; over = false } →
      Begins (length row) row (begins_in settings xs ys fs true stops) (Ok (Crunching.Going (record { w = w; tally = untried })))
  goes_closed [] some e = absurd (some refl)
  goes_closed (a ∷ stops) some {row} {w} e = record { stands = goes {p = record { w = w; tally = untried }} {ps = []} refl (rw e (nothing_written row)) refl; none = refl }

  pub begins_round : (stops : List ℕ) {fine : Bool} → fine ≡ settings_fine settings → fine ≡ true → settings.closed ≡ true → (length stops ≡ 0 → ⊥) →
      {row : Points} {w : Written} → w ≡ record { count = 0; over = false } →
      Begins (length row) row (begins settings xs ys fs (settings_fine settings) stops) (Ok (Crunching.Going (record { w = w; tally = untried })))
  begins_round stops is e mode some nothing = fine_begins settings xs ys fs stops is e mode (goes_closed stops some nothing)

-- ---- `end`

module _ (xs ys : List ℤ) (fs : List ℕ) (x : State) where
  pub ends_open : (stops : List ℕ) {closed : Bool} → closed ≡ false → x ≡ ends xs ys fs closed stops x
  ends_open stops e = rw e refl

  pub ends_none : (stops : List ℕ) {closed : Bool} → closed ≡ true → length stops ≡ 0 → x ≡ ends xs ys fs closed stops x
  ends_none [] e none = rw e refl
  ends_none (a ∷ stops) e none = absurd (omega (arith, none))

  pub ends_round : (stops : List ℕ) {closed : Bool} → closed ≡ true → (length stops ≡ 0 → ⊥) → {a : ℕ} {s : List ℤ} → a ≡ start_of fs (get_or stops 0 0) →
      s ≡ point_as true xs ys a → closed_up s x ≡ ends xs ys fs closed stops x
  ends_round [] e some place start = absurd (some refl)
  ends_round (b ∷ stops) e some place start = rw (e, start, place) refl

pub comes_so : (closed : Bool) (n : ℕ) {row : Points} {r : Result D.Crunched Refusal} {x y : State} → x ≡ y → Gives row (outcome_of closed n x) r → Gives row (outcome_of closed n y) r
comes_so closed n {row} {r} e g = subst (λ (z : State). Gives row (outcome_of closed n z) r) e g

-- ---- the whole of an edition

-- with the settings that the order gives it
pub begun_by : (xs ys : List ℤ) (fs stops : List ℕ) {settings chosen : Settings} → chosen ≡ settings → {n : ℕ} {row : Points} {r : Result C.Crunching Refusal} →
    Begins n row (begins chosen xs ys fs (settings_fine chosen) stops) r → Begins n row (begins settings xs ys fs (settings_fine settings) stops) r
begun_by xs ys fs stops e {n} {row} {r} b = subst (λ (s : Settings). Begins n row (begins s xs ys fs (settings_fine s) stops) r) e b

module _ (rooms : Rooms) (settings : Settings) (xs ys : List ℤ) (fs : List ℕ) where
  pub carried : (list : List ℕ) {n : ℕ} {old new : Points} {b c : Result C.Crunching Refusal} → Begins n old (begins settings xs ys fs (settings_fine settings) list) b → length old ≡ n →
      Carries (crunch_all rooms settings xs ys fs (between list)) old new b c → length new ≡ length old →
      Stands (length new) new (crunch_all rooms settings xs ys fs (between list) (begins settings xs ys fs (settings_fine settings) list)) c
  carried list {n} {old} {new} {b} {c} begun long carries kept =
      let from = begins settings xs ys fs (settings_fine settings) list in
      let started = subst (λ (k : ℕ). Stands k old from b) (sym long) begun.stands in
      subst (λ (k : ℕ). Stands k new (crunch_all rooms settings xs ys fs (between list) from) c) (sym kept) (carries from started)

  pub stood : (list : List ℕ) {n : ℕ} {old new : Points} {b c : Result C.Crunching Refusal} → Begins n old (begins settings xs ys fs (settings_fine settings) list) b → length old ≡ n →
      Carries (crunch_all rooms settings xs ys fs (between list)) old new b c → length new ≡ length old → Stood new c
  stood list begun long carries kept = record { state = _; stands = carried list begun long carries kept }

  pub comes : (list : List ℕ) → list ≡ stops_of settings.closed xs ys fs → {n : ℕ} {old mid new : Points} {b c : Result C.Crunching Refusal} {r : Result D.Crunched Refusal} →
      Begins n old (begins settings xs ys fs (settings_fine settings) list) b → length old ≡ n →
      Carries (crunch_all rooms settings xs ys fs (between list)) old mid b c → length mid ≡ length old →
      Comes (λ x. outcome_of settings.closed (length mid) (ends xs ys fs settings.closed list x)) mid new c r →
      Gives new (work_of rooms settings xs ys fs n) r
  unfolding work_of
  comes list listed {n} {old} {mid} {new} {b} {c} {r} begun long carries kept end =
      let there = end _ (carried list begun long carries kept) in
      subst (λ (l : List ℕ). Gives new (outcome_of settings.closed n (worked_on rooms settings xs ys fs l)) r) listed
      (subst (λ (k : ℕ). Gives new (outcome_of settings.closed k (worked_on rooms settings xs ys fs list)) r) (kept ∙ long) there)

  -- ---- it is the crunch entry's

  round_is : (stops : List ℕ) → ends xs ys fs true stops (crunch_all rooms settings xs ys fs (between stops) (begins_in settings xs ys fs true stops)) ≡
      crunch_in rooms settings xs ys fs true stops
  round_is [] = stays_ended rooms settings xs ys fs (between []) (unchanged_in xs ys fs settings.closed) untried
  round_is (a ∷ stops) = refl

  by_mode : (mode : Bool) (stops : List ℕ) → ends xs ys fs mode stops (crunch_all rooms settings xs ys fs (between stops) (begins_in settings xs ys fs mode stops)) ≡
      crunch_in rooms settings xs ys fs mode stops
  by_mode true stops = round_is stops
  by_mode false stops = refl

  pub ends_refused : (mode : Bool) (stops : List ℕ) (k : Refusal) → ends xs ys fs mode stops (refused k) ≡ refused k
  ends_refused true [] k = refl
  ends_refused true (a ∷ stops) k = refl
  ends_refused false stops k = refl

  by_choice : (room : ℕ) (fine : Bool) (stops : List ℕ) →
      outcome_of settings.closed room (ends xs ys fs settings.closed stops (crunch_all rooms settings xs ys fs (between stops) (begins settings xs ys fs fine stops))) ≡
      after_judging (refuse NoSuchPenalty (not fine) (Ok tt)) (outcome_of settings.closed room (crunch_in rooms settings xs ys fs settings.closed stops))
  by_choice room true stops = ap (outcome_of settings.closed room) (by_mode settings.closed stops)
  by_choice room false stops =
      ap (λ (x : State). outcome_of settings.closed room (ends xs ys fs settings.closed stops x)) (stays_refused rooms settings xs ys fs (between stops) NoSuchPenalty)
      ∙ ap (outcome_of settings.closed room) (ends_refused settings.closed stops NoSuchPenalty)

  pub work_alone : (room : ℕ) → judged xs ys fs ≡ Ok tt → work_of rooms settings xs ys fs room ≡ crunch_of rooms room settings xs ys fs
  unfolding work_of crunch_of judged_for crunch_runs
  work_alone room fine =
      by_choice room (settings_fine settings) (stops_of settings.closed xs ys fs)
      ∙ ap (λ (j : Result Unit Refusal). after_judging (then_settings settings j) (outcome_of settings.closed room (crunch_runs rooms settings xs ys fs))) (sym fine)

  pub refused_alone : (room : ℕ) {k : Refusal} → judged xs ys fs ≡ Err k → crunch_of rooms room settings xs ys fs ≡ Outcome.refused k
  unfolding crunch_of judged_for
  refused_alone room e = ap (λ (j : Result Unit Refusal). after_judging (then_settings settings j) (outcome_of settings.closed room (crunch_runs rooms settings xs ys fs))) e

  -- ---- `both_into`

  pub fine_gives : (room : ℕ) {j : Result Unit Refusal} → j ≡ judged xs ys fs → j ≡ Ok tt → {row : Points} {r : Result D.Crunched Refusal} → Gives row (work_of rooms settings xs ys fs room) r →
      Gives row (crunch_of rooms room settings xs ys fs) r
  fine_gives room is e {row} {r} g = subst (λ (x : Outcome). Gives row x r) (work_alone room (sym is ∙ e)) g

  pub refused_gives : (room : ℕ) {j : Result Unit Refusal} {k : Refusal} → j ≡ judged xs ys fs → j ≡ Err k → {row : Points} →
      Gives row (crunch_of rooms room settings xs ys fs) (Err k)
  refused_gives room {k = k} is e {row} = subst (λ (x : Outcome). Gives row x (Err k)) (sym (refused_alone room (sym is ∙ e))) (no refl)
