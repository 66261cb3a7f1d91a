-- A row that is lent from a place on, and what it then holds. Assumes nothing.
use Rattle.std.specs.Prelude.{Result}
use Rattle.refusals.specs.declared.refusal.Refusal.{Refusal}
use Prim.Native.Nat.{ℕ, ◌-◌, ◌≤◌}
use native.Mathlib.Nat.{le_refl}
use mathlib.Core.List.{List, ◌++◌, append-nil}
use mathlib.Core.Path.{◌≡◌, sym, ap, subst, ◌∙◌}
use borrow.Rule.Slice.PartMut.{put_mid, mid_len, take_put, Post-is}
use lib.IntN.{ℤ}
use lib.ListN.{length, take, drop}
use lib.Seq.{drop_at, drop-length, length-take-le}
use Rattle.settings.specs.declared.Settings.{Settings}
use Rattle.edition.specs.Edition.{Rooms}
use Rattle.contour.specs.Points.{Points}
use Rattle.crunch.specs.Crunch.{crunch_of}
use Rattle.crunch.specs.Stands.{Gives}
use Rattle.crunch.specs.declared.Crunched.{Crunched}
use Rattle.glyphs.specs.Stands.{Adds}

module _ (row : Points) (at : ℕ) (h : at ≤ length row) where
  after_put : (mid : Points) → drop at (put_mid at (length row - at) row mid) ≡ mid
  after_put mid =
      drop_at (take at row) _ at (length-take-le at row h) ∙ ap (◌++◌ mid) (Post-is at (length row) row h ∙ drop-length row) ∙ append-nil mid

  -- the first places stay, and the part has as many places as are left
  pub adds : (rooms : Rooms) (settings : Settings) (xs ys : List ℤ) (fs : List ℕ) {mid : Points} {r : Result Crunched Refusal} →
      Gives mid (crunch_of rooms (length (take (length row - at) (drop at row))) settings xs ys fs) r →
      Adds row at (put_mid at (length row - at) row mid) (crunch_of rooms (length row - at) settings xs ys fs) r
  adds rooms settings xs ys fs {mid} {r} g = record {
    kept = take_put at (length row - at) row mid h;
    gives =
        subst (λ (k : ℕ). Gives (drop at (put_mid at (length row - at) row mid)) (crunch_of rooms k settings xs ys fs) r)
        (mid_len at (length row) row (le_refl _))
        (subst (λ (l : Points). Gives l (crunch_of rooms (length (take (length row - at) (drop at row))) settings xs ys fs) r) (sym (after_put mid)) g);
  }
