-- Two editions of a contour: what each chooses, and its own part of the work. What becomes of an edition has no definition here: it is the crunch
-- entry's, with the edition's own settings and rows. Definitions only.
use Rattle.std.specs.Prelude.{ℕ, Bool, true, false, List, [], ◌∷◌, ℤ}
use Rattle.refusals.specs.declared.refusal.Refusal.TheVariants.{NoSuchPenalty}
use Rattle.outline.specs.Segments.{start_of}
use Rattle.runs.specs.Runs.{between, stops_of}
use Rattle.settings.specs.Settings.{yes_of, settings_fine}
use Rattle.settings.specs.declared.Settings.{Settings}
use Rattle.optimize.specs.Tally.{untried}
use Rattle.optimize.specs.declared.Tally.{Tally}
use Rattle.edition.specs.Edition.{Rooms}
use Rattle.contour.specs.Points.{Points, point_as, start_point, unchanged_in}
use Rattle.assembly.specs.Assembly.{State, refused, ended, going, closed_up, crunch_all}
use Rattle.crunch.specs.Crunch.{Outcome, outcome_of}
use Rattle.editions.specs.declared.work.Order.{Order}

-- ---- an edition's settings: its own penalty, with the grid and the mode of both

abbrev pub settings_a : Order → Settings
settings_a o = record { penalty = o.penalty_a; whole_units = o.whole_units; closed = o.closed }

abbrev pub settings_b : Order → Settings
settings_b o = record { penalty = o.penalty_b; whole_units = o.whole_units; closed = o.closed }

-- of numbers, as C and Rust programs give them
abbrev pub order_of : ℕ → ℕ → ℕ → ℕ → Order
order_of a b whole closed = record { penalty_a = a; penalty_b = b; whole_units = yes_of whole; closed = yes_of closed }

-- ---- an edition's work

-- a step of an edition whose work goes on; any other stays as it is
abbrev pub while_going : (Points → Tally → State) → State → State
while_going f (refused k) = refused k
while_going f (ended ps tally) = ended ps tally
while_going f (going ps tally) = f ps tally

module _ (settings : Settings) (xs ys : List ℤ) (fs : List ℕ) where
  -- how it begins, by the mode; in closed mode no corner leaves the contour unchanged
  abbrev pub begins_in : Bool → List ℕ → State
  begins_in true [] = ended (unchanged_in xs ys fs settings.closed) untried
  begins_in true (a ∷ stops) = going [] untried
  begins_in false stops = going (start_point xs ys ∷ []) untried

  -- 16, or its beginning
  abbrev pub begins : Bool → List ℕ → State
  begins false stops = refused NoSuchPenalty
  begins true stops = begins_in settings.closed stops

-- how it ends, by the mode: closed, from the first corner round to it
module _ (xs ys : List ℤ) (fs : List ℕ) where
  abbrev pub ends : Bool → List ℕ → State → State
  ends true [] x = x
  ends true (a ∷ stops) x = closed_up (point_as true xs ys (start_of fs a)) x
  ends false stops x = x

module _ (rooms : Rooms) (settings : Settings) (xs ys : List ℤ) (fs : List ℕ) where
  -- the runs between the stops, from its beginning to its end
  abbrev pub worked_on : List ℕ → State
  worked_on stops = ends xs ys fs settings.closed stops
      (crunch_all rooms settings xs ys fs (between stops) (begins settings xs ys fs (settings_fine settings) stops))

  -- with a room for so many points, of a contour that none of 1 to 5 is given for
  unfoldable pub work_of : ℕ → Outcome
  work_of room = outcome_of settings.closed room (worked_on (stops_of settings.closed xs ys fs))
