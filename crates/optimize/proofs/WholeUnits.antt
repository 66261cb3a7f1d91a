-- The statement of specs/WholeUnits: a finite break of this grid is on whole units. Assumes nothing.
use mathlib.Core.Bool.{true}
use mathlib.Core.Path.{◌≡◌, refl}
use Rattle.geometry.specs.Geometry.{is_whole}
use Rattle.breaks.specs.Breaks.{break_at}
use Rattle.breaks.proofs.WholeUnits.{none_off_units}
use Rattle.optimize.specs.WholeUnits.{NeverHeldBack}

pub never_held_back : NeverHeldBack
never_held_back room samples len breaks found measure penalty i j st h t =
    let whole : is_whole (break_at breaks i).xy ≡ true = none_off_units room samples len breaks found i h t in
    record { straight_tried = rw whole refl; bent_allowed = λ p. rw whole refl }
