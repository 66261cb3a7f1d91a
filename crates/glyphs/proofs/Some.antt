-- What a contour is crunched to has a point: it starts on-curve. Assumes nothing.
use Prim.Native.Nat.{ℕ, ◌<◌}
use native.Mathlib.Omega.{arith}
use mathlib.Core.Bool.{false≢true}
use mathlib.Core.List.{List, [], ◌∷◌}
use mathlib.Core.Path.{◌≡◌, sym}
use lib.IntN.{ℤ}
use lib.ListN.{length}
use Rattle.settings.specs.declared.Settings.{Settings}
use Rattle.optimize.specs.declared.Tally.{Tally}
use Rattle.edition.specs.Edition.{Rooms}
use Rattle.contour.specs.Points.{Points}
use Rattle.contour.specs.Kept.{StartsOn}
use Rattle.crunch.specs.Crunch.{crunched, crunch_of}
use Rattle.crunch.proofs.Written.{comes_back}

starting_some : (ps : Points) → StartsOn ps → 0 < length ps
starting_some [] h = absurd (false≢true (sym h))
starting_some (p ∷ ps) h = omega arith

-- a contour that is not refused keeps a point
pub some_point : (rooms : Rooms) (room : ℕ) (settings : Settings) (xs ys : List ℤ) (fs : List ℕ) {ps : Points} {tally : Tally} →
    crunch_of rooms room settings xs ys fs ≡ crunched ps tally → 0 < length ps
some_point rooms room settings xs ys fs {ps} {tally} e = starting_some ps (comes_back rooms room settings xs ys fs ps tally e).starts
