-- The whole of a contour, of its steps. Assumes nothing.
use Rattle.std.specs.Prelude.{Result}
use Rattle.refusals.specs.declared.refusal.Refusal.{Refusal}
use Prim.Native.Nat.{ℕ, min, ◌≤◌}
use native.Mathlib.Omega.{arith}
use mathlib.Core.List.{List, ◌++◌}
use mathlib.Core.Path.{◌≡◌, refl, sym, ap, subst, ◌∙◌}
use lib.IntN.{ℤ}
use lib.ListN.{length, take, drop, replicate, length-append, length-take, length-drop}
use lib.Seq.{length-take-le}
use Rattle.rows.specs.Rows.{point_zero}
use Rattle.settings.specs.Settings.{judged_for}
use Rattle.settings.specs.declared.Settings.{Settings}
use Rattle.edition.specs.Edition.{Rooms}
use Rattle.contour.specs.Points.{Points}
use Rattle.assembly.specs.Assembly.{crunch_runs}
use Rattle.crunch.specs.Crunch.{outcome_of, after_judging, crunch_of}
use Rattle.crunch.specs.Stands.{Gives}
use Rattle.crunch.specs.declared.Crunched as D

-- ---- `crunch_into`

module _ (rooms : Rooms) (room : ℕ) (settings : Settings) (xs ys : List ℤ) (fs : List ℕ) {j k : Result Unit Refusal} (e : j ≡ judged_for settings xs ys fs) (h : j ≡ k) {row : Points} {r : Result D.Crunched Refusal} where
  pub judged_gives : Gives row (after_judging k (outcome_of settings.closed room (crunch_runs rooms settings xs ys fs))) r → Gives row (crunch_of rooms room settings xs ys fs) r
  unfolding crunch_of
  judged_gives g = subst (λ (x : Result Unit Refusal). Gives row (after_judging x (outcome_of settings.closed room (crunch_runs rooms settings xs ys fs))) r) (sym h ∙ e) g

-- ---- `crunch`: the shortest row

module _ {a b room : ℕ} (x y f : ℕ) (row : Points) (first : a ≡ min x y) (second : b ≡ min f (length row)) (both : room ≡ min a b) where
  pub room_in : room ≤ length row
  room_in = omega arith

  pub room_is : length (take room row) ≡ min (min x y) (min f (length row))
  room_is = length-take-le room row room_in ∙ both ∙ rw (first, second) refl

  pub room_few : (length (take room row) ≤ x) × (length (take room row) ≤ y) × (length (take room row) ≤ f)
  room_few = let same = length-take-le room row room_in in (omega arith, omega arith, omega arith)

-- a row that is lent up to its room keeps its length
pub length_kept : (row sub : Points) (room : ℕ) → length sub ≡ length (take room row) → length (sub ++ drop room row) ≡ length row
length_kept row sub room e = omega (arith, length-append sub (drop room row), length-take room row, length-drop room row)

-- ---- `crunch_contour`: the rows are cleared at the lengths that they were lent with

pub cleared_points : (points : Points) {points' : Points} {k : ℕ} → points' ≡ replicate k point_zero → k ≡ length points → points' ≡ replicate (length points) point_zero
cleared_points points e long = e ∙ ap (λ (n : ℕ). replicate n point_zero) long

-- the room is that of the shortest row
pub at_room : (rooms : Rooms) (settings : Settings) (xs ys : List ℤ) (fs : List ℕ) {row : Points} {r : Result D.Crunched Refusal} {m n : ℕ} → m ≡ n →
    Gives row (crunch_of rooms m settings xs ys fs) r → Gives row (crunch_of rooms n settings xs ys fs) r
at_room rooms settings xs ys fs {row} {r} e g = subst (λ (k : ℕ). Gives row (crunch_of rooms k settings xs ys fs) r) e g
