-- Theorems on the definitions of Valid: equality of f64 values, and what a checker's yes and 8 say. Assumes nothing.
use Rattle.std.specs.Prelude.{◌*◌, Bool, true, false, not, ◌&&◌, ◌||◌, List, ◌↔◌, ◌≡◌, refl, Float, Option, Some, None}
use Rattle.std.proofs.Common.{eq-eqb}
use Rattle.std.specs.Float.{nan, inf, fin}
use Rattle.std.specs.Float.Ieee.{up, down, eq, is_nan}
use Rattle.breaks.specs.Breaks.{Row}
use Rattle.chain.specs.Valid.{equals, good_shape, sum_of, judged_by, verdict, checked_chain}
use Rattle.chain.specs.declared.Piece.{Piece}

-- ---- equality

-- a value is IEEE-equal to itself exactly where it is no NaN
pub eq_self : (x : Float) → eq x x ≡ not (is_nan x)
unfolding eq is_nan
eq_self nan = refl
eq_self (inf true) = refl
eq_self (inf false) = refl
eq_self (fin true m e) = rw (eq-eqb (m * up e * down e) (m * up e * down e) refl)
eq_self (fin false m e) = rw (eq-eqb (m * up e * down e) (m * up e * down e) refl)

either : (n : Bool) → (not n || (n && n)) ≡ true
either true = refl
either false = refl

pub equals_same : (x : Float) → equals x x ≡ true
equals_same x = rw (eq_self x) (either (is_nan x))

-- ---- the checker

module _ (samples : List (List Float)) (breaks : Row) (penalty : Float) where
  module _ (ps : List Piece) (score : Float) where
    no_sum_lem : (s : Option Float) → judged_by samples breaks penalty s score ≡ None → s ≡ None
    no_sum_lem (Some s) e = absurd cc
    no_sum_lem None e = refl

    refused : (good : Bool) → verdict samples breaks penalty good ps score ≡ None →
        (good ≡ true) × (sum_of samples breaks penalty ps ≡ None)
    refused false e = absurd cc
    refused true e = (refl, no_sum_lem (sum_of samples breaks penalty ps) e)

    -- 8 exactly when the shape is good and a measure of the sum is refused
    pub refuses_exactly : (checked_chain samples breaks penalty ps score ≡ None) ↔
        ((good_shape breaks ps ≡ true) × (sum_of samples breaks penalty ps ≡ None))
    unfolding checked_chain
    refuses_exactly = (refused (good_shape breaks ps), λ h. rw (h.0, h.1))

    yes : (s : Float) (good : Bool) → sum_of samples breaks penalty ps ≡ Some s → verdict samples breaks penalty good ps score ≡ Some true →
        (good ≡ true) × (equals s score ≡ true)
    yes s false summed e = absurd cc
    yes s true summed e = (refl, let said : Some (equals s score) ≡ Some true = rw summed at e in cc)

    -- where the published sum is s, yes exactly when the shape is good and s equals the score
    pub accepts_exactly : (s : Float) → sum_of samples breaks penalty ps ≡ Some s →
        (checked_chain samples breaks penalty ps score ≡ Some true) ↔ ((good_shape breaks ps ≡ true) × (equals s score ≡ true))
    unfolding checked_chain
    accepts_exactly s summed = (yes s (good_shape breaks ps) summed, λ h. rw (h.0, summed, h.1))
