-- Laws for callers: once refused, or ended, a state stays whatever runs follow. Assumes nothing.
use Rattle.std.specs.Prelude.{ℕ, ◌≡◌, ℤ}
use mathlib.Core.List.{List, [], ◌∷◌}
use Rattle.std.proofs.Math.Path.{refl}
use Rattle.refusals.specs.declared.refusal.Refusal.{Refusal}
use Rattle.runs.specs.declared.Run.{Run}
use Rattle.settings.specs.declared.Settings.{Settings}
use Rattle.optimize.specs.declared.Tally.{Tally}
use Rattle.edition.specs.Edition.{Rooms}
use Rattle.contour.specs.Points.{Points}
use Rattle.assembly.specs.Assembly.{refused, ended, crunch_all}

module _ (rooms : Rooms) (settings : Settings) (xs ys : List ℤ) (fs : List ℕ) where
  pub stays_refused : (rs : List Run) (n : Refusal) → crunch_all rooms settings xs ys fs rs (refused n) ≡ refused n
  unfolding crunch_all
  stays_refused [] n = refl
  stays_refused (r ∷ rs) n = stays_refused rs n

  pub stays_ended : (rs : List Run) (ps : Points) (t : Tally) → crunch_all rooms settings xs ys fs rs (ended ps t) ≡ ended ps t
  unfolding crunch_all
  stays_ended [] ps t = refl
  stays_ended (r ∷ rs) ps t = stays_ended rs ps t
