-- Worked values: the smallest contours that tell the rule from its neighbours. Each is computed from the definitions. Assumes nothing.
use Prim.Native.Nat.{ℕ}
use mathlib.Core.Bool.{true, false}
use mathlib.Core.List.{List, [], ◌∷◌}
use mathlib.Core.Path.{◌≡◌, refl}
use lib.IntN.{ℤ, pos}
use lib.Ieee as Ieee
use Rattle.float.specs.Float.{abs_of, tiny, close_to, root_down, root_near, root_units, root_of}
use Rattle.outline.specs.Segments.{count_of, end_of, place_after, seg_from}
use Rattle.corners.specs.Corners.{turns_y, chord_at, state_at}
use Rattle.why.specs.Tests.{first_state, second_state, turn_y, reasons_of}

-- (7, 9) alone: both zero tangents, and no angle
one_point : reasons_of (pos 7 ∷ []) (pos 9 ∷ []) (1 ∷ []) 1 0 ≡ record { x = false; y = false; before = true; after = true; angle = false }
unfolding state_at seg_from count_of place_after end_of close_to tiny abs_of root_of root_units root_near root_down Ieee.of_int Ieee.of_bits Ieee.round Ieee.size Ieee.add Ieee.sub Ieee.mul Ieee.div Ieee.lt
one_point = refl

-- (0, 0), (0, 1): segment 0 turns in y, in the second round alone
there_and_back : reasons_of (pos 0 ∷ pos 0 ∷ []) (pos 0 ∷ pos 1 ∷ []) (1 ∷ 1 ∷ []) 2 0 ≡ record { x = false; y = true; before = false; after = false; angle = false }
unfolding state_at seg_from count_of place_after end_of close_to tiny abs_of root_of root_units root_near root_down Ieee.of_int Ieee.of_bits Ieee.round Ieee.size Ieee.add Ieee.sub Ieee.mul Ieee.div Ieee.lt
there_and_back = refl

second_alone : turns_y (first_state (pos 0 ∷ pos 0 ∷ []) (pos 0 ∷ pos 1 ∷ []) (1 ∷ 1 ∷ []) 2 0) (chord_at (pos 0 ∷ pos 0 ∷ []) (pos 0 ∷ pos 1 ∷ []) (1 ∷ 1 ∷ []) 0) ≡ false
unfolding state_at seg_from count_of place_after end_of close_to tiny abs_of root_of root_units root_near root_down Ieee.of_int Ieee.of_bits Ieee.round Ieee.size Ieee.add Ieee.sub Ieee.mul Ieee.div Ieee.lt
second_alone = refl

-- (0, 0), (0, 1), (1, 1), (2, 0): segment 2 turns in y, in the first round alone
abbrev hat_x : List ℤ
hat_x = pos 0 ∷ pos 0 ∷ pos 1 ∷ pos 2 ∷ []

abbrev hat_y : List ℤ
hat_y = pos 0 ∷ pos 1 ∷ pos 1 ∷ pos 0 ∷ []

abbrev hat_on : List ℕ
hat_on = 1 ∷ 1 ∷ 1 ∷ 1 ∷ []

first_turns : turns_y (first_state hat_x hat_y hat_on 4 2) (chord_at hat_x hat_y hat_on 2) ≡ true
unfolding state_at seg_from count_of place_after end_of close_to tiny abs_of root_of root_units root_near root_down Ieee.of_int Ieee.of_bits Ieee.round Ieee.size Ieee.add Ieee.sub Ieee.mul Ieee.div Ieee.lt
first_turns = refl

second_does_not : turns_y (second_state hat_x hat_y hat_on 4 2) (chord_at hat_x hat_y hat_on 2) ≡ false
unfolding state_at seg_from count_of place_after end_of close_to tiny abs_of root_of root_units root_near root_down Ieee.of_int Ieee.of_bits Ieee.round Ieee.size Ieee.add Ieee.sub Ieee.mul Ieee.div Ieee.lt
second_does_not = refl

-- (0, 0), (0, 1), (1, 0): segment 0 has no turn in y, since a turn in x replaces both
joined : turn_y (pos 0 ∷ pos 0 ∷ pos 1 ∷ []) (pos 0 ∷ pos 1 ∷ pos 0 ∷ []) (1 ∷ 1 ∷ 1 ∷ []) 3 0 ≡ false
unfolding state_at seg_from count_of place_after end_of close_to tiny abs_of root_of root_units root_near root_down Ieee.of_int Ieee.of_bits Ieee.round Ieee.size Ieee.add Ieee.sub Ieee.mul Ieee.div Ieee.lt
joined = refl
