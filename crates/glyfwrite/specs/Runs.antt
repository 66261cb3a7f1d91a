-- A run of equal flags, as it goes on. Definitions only.
use Rattle.std.specs.Prelude.{ℕ, ◌+◌, ◌<◌, ◌≤◌, List, ◌∷◌, ◌++◌, ◌≡◌}
use Rattle.glyf.specs.Layout.{packed}
use Rattle.glyfwrite.specs.Puts.{Put}
use Rattle.glyfwrite.specs.declared.flags.Run.{Run}

-- one flag more, after the run v and before w: a text is put, whatever follows comes after it
pub record Turned (out : List ℕ) (v : Run) (f : ℕ) (out' : List ℕ) (w : Run) : Type 0 where
  pub text : List ℕ
  pub put : Put out v.at text out' w.at
  pub is : (gs : List ℕ) → packed (f ∷ gs) v.flag v.times ≡ text ++ packed gs w.flag w.times
  pub near : w.at ≤ v.at + 2
  pub either : (w.times ≤ 256) × ((k : ℕ) → v.flag < k → f < k → w.flag < k)
