-- A place and a direction looked up at once. Definitions only, for the contracts.
use Rattle.std.specs.Prelude.{List, Float, Option, Some, None}
use Rattle.geometry.specs.declared.Point.{Point}
use Rattle.lookup.specs.Lookup.{point_between, xy_at, dir_at}
use Rattle.quicklookup.specs.declared.Spot.{Spot}

-- the place, then the direction
abbrev pub both : Option Point → Option Point → Option Spot
both (Some p) (Some d) = Some (record { xy = p; dir = d })
both (Some p) None = None
both None f = None

abbrev pub spot_at : List (List Float) → Float → Option Spot
spot_at row s = both (xy_at row s) (dir_at row s)

-- place and direction, u of the way from the sample p to the sample q
abbrev pub spot_between : List Float → List Float → Float → Spot
spot_between p q u = record { xy = point_between 0 p q u; dir = point_between 2 p q u }
