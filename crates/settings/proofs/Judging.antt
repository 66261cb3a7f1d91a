-- What refusals 1 to 5 and then 16 come to. Assumes nothing.
use Rattle.std.specs.Prelude.{Result, Ok, Err}
use Prim.Native.Nat.{ℕ}
use mathlib.Core.Bool.{Bool, not}
use mathlib.Core.List.{List}
use mathlib.Core.Path.{◌≡◌, sym, ap, ◌∙◌}
use lib.IntN.{ℤ}
use Rattle.refusals.specs.Refusals.{judged, refuse}
use Rattle.refusals.specs.declared.refusal.Refusal.TheVariants.{NoSuchPenalty}
use Rattle.refusals.specs.declared.refusal.Refusal.{Refusal}
use Rattle.settings.specs.Settings.{settings_fine, then_settings, judged_for}
use Rattle.settings.specs.declared.Settings.{Settings}

module _ (s : Settings) (xs ys : List ℤ) (fs : List ℕ) {j : Result Unit Refusal} (e : j ≡ judged xs ys fs) where
  -- a refusal of the rows stays
  pub of_rows : {k : Refusal} → j ≡ Err k → (Err k) ≡ judged_for s xs ys fs
  unfolding judged_for
  of_rows is = ap (then_settings s) (sym is ∙ e)

  -- else 16 is given or not
  pub of_settings : {fine b : Bool} → j ≡ Ok tt → fine ≡ settings_fine s → fine ≡ b → refuse NoSuchPenalty (not b) (Ok tt) ≡ judged_for s xs ys fs
  unfolding judged_for
  of_settings is f as-b = ap (λ (t : Bool). refuse NoSuchPenalty (not t) (Ok tt)) (sym as-b ∙ f) ∙ ap (then_settings s) (sym is ∙ e)
