-- Worked values of the definitions, by computation. Assumes nothing.
use mathlib.Core.Path.{◌≡◌, refl}
use mathlib.Core.List.{List, [], ◌∷◌}
use mathlib.Core.Bool.{Bool, true, false}
use lib.IntN.{pos}
use lib.Ieee as Ieee
use Rattle.float.specs.Float.{abs_of, tiny, close_to, root_down, root_near, root_units, root_of}
use Rattle.outline.specs.Segments.{count_of, end_of, place_after, seg_from}
use Rattle.corners.specs.Corners.{marked, state_at, corners_of}

-- (0, 0), (100, 0), (0, 100), all on: three corners
triangle : corners_of (pos 0 ∷ pos 100 ∷ pos 0 ∷ []) (pos 0 ∷ pos 0 ∷ pos 100 ∷ []) (1 ∷ 1 ∷ 1 ∷ []) 3 ≡ true ∷ true ∷ true ∷ []
unfolding corners_of marked state_at seg_from count_of place_after end_of close_to tiny abs_of root_of root_units root_near root_down Ieee.of_int Ieee.of_bits Ieee.round Ieee.size Ieee.add Ieee.sub Ieee.mul Ieee.div Ieee.lt
triangle = refl

-- (0, 0) on, (100, 0) on, (50, 100) off: two segments, both start at a corner
lost_curve : corners_of (pos 0 ∷ pos 100 ∷ pos 50 ∷ []) (pos 0 ∷ pos 0 ∷ pos 100 ∷ []) (1 ∷ 1 ∷ 0 ∷ []) 3 ≡ true ∷ true ∷ false ∷ []
unfolding corners_of marked state_at seg_from count_of place_after end_of close_to tiny abs_of root_of root_units root_near root_down Ieee.of_int Ieee.of_bits Ieee.round Ieee.size Ieee.add Ieee.sub Ieee.mul Ieee.div Ieee.lt
lost_curve = refl

-- (0, 0), (100, 0), (200, 0), (200, 100), all on: no corner at (100, 0)
abbrev flat : List Bool
flat = corners_of (pos 0 ∷ pos 100 ∷ pos 200 ∷ pos 200 ∷ []) (pos 0 ∷ pos 0 ∷ pos 0 ∷ pos 100 ∷ []) (1 ∷ 1 ∷ 1 ∷ 1 ∷ []) 4

flat_corners : flat ≡ true ∷ false ∷ true ∷ true ∷ []
unfolding corners_of marked state_at seg_from count_of place_after end_of close_to tiny abs_of root_of root_units root_near root_down Ieee.of_int Ieee.of_bits Ieee.round Ieee.size Ieee.add Ieee.sub Ieee.mul Ieee.div Ieee.lt
flat_corners = refl
