-- A place from a lookup of place and direction at once. Assumes nothing.
use Prim.Native.Nat.{◌<◌}
use mathlib.Core.List.{List}
use mathlib.Core.Path.{◌≡◌, refl, ◌∙◌}
use lib.ListN.{length}
use lib.Ieee.{Float, to_unsigned}
use Rattle.std.specs.Prelude.{Option, Some, None, Err}
use Rattle.geometry.specs.declared.Point.{Point}
use Rattle.lookup.specs.Lookup.{xy_at, dir_at}
use Rattle.quicklookup.specs.Spots.{both, spot_at}
use Rattle.quicklookup.specs.declared.Spot.{Spot}
use Rattle.breaks.specs.Breaks.{placed, place_at}
use Rattle.breaks.specs.declared.Grid.{Grid}
use Rattle.breaks.specs.declared.Stopped.TheVariants as Stopped
use Rattle.breaks.proofs.Laws.{place_inside}

both_found : (g : Grid) (s : Float) (a b : Option Point) (c : Spot) → both a b ≡ Some c → placed g s a b ≡ placed g s (Some c.xy) (Some c.dir)
both_found g s (Some p) (Some d) c e =
    let xy : p ≡ c.xy = cc in
    let dir : d ≡ c.dir = cc in
    rw (xy, dir)
both_found g s (Some p) None c e = cc
both_found g s None b c e = cc

both_last : (g : Grid) (s : Float) (a b : Option Point) → both a b ≡ None → placed g s a b ≡ Err Stopped.Missing
both_last g s (Some p) (Some d) e = cc
both_last g s (Some p) None e = refl
both_last g s None b e = refl

module _ (samples : List (List Float)) (g : Grid) (s : Float) (h : to_unsigned 64 s < length samples) where
  pub place_found : (c : Spot) → spot_at samples s ≡ Some c → place_at samples g s ≡ placed g s (Some c.xy) (Some c.dir)
  place_found c e = place_inside samples g s h ∙ both_found g s (xy_at samples s) (dir_at samples s) c e

  pub place_last : spot_at samples s ≡ None → place_at samples g s ≡ Err Stopped.Missing
  place_last e = place_inside samples g s h ∙ both_last g s (xy_at samples s) (dir_at samples s) e
