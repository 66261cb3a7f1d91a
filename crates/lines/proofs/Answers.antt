-- The points of an answer, one after the other. Assumes nothing.
use Prim.Native.Nat.{ℕ, suc, ◌+◌, ◌-◌, ◌≤◌, ◌<◌}
use native.Mathlib.Omega.{arith}
use mathlib.Core.List.{List, [], ◌++◌}
use mathlib.Core.Path.{◌≡◌, refl, subst}
use lib.IntN.{ℤ, pos}
use lib.ListN.{get_or}
use Rattle.lines.specs.Text.{Put, signed_of}
use Rattle.lines.specs.Answer.{point_text, points_text}
use Rattle.lines.proofs.Texts.{Going, more_text, done}

-- a coordinate as the code holds it is the coordinate
pub as_signed : {out out' : List ℕ} {at r : ℕ} {z w : ℤ} → z ≡ w → Put out at (signed_of z) out' r → Put out at (signed_of w) out' r
as_signed {out} {out'} {at} {r} e p = subst (λ (x : ℤ). Put out at (signed_of x) out' r) e p

pub as_point : {out out' : List ℕ} {at r : ℕ} (f : ℕ) {a b x y : ℤ} → a ≡ x → b ≡ y → Put out at (point_text a b f) out' r → Put out at (point_text x y f) out' r
as_point {out} {out'} {at} {r} f {a} {b} {x} {y} e h p =
    subst (λ (z : ℤ). Put out at (point_text x z f) out' r) h (subst (λ (z : ℤ). Put out at (point_text z b f) out' r) e p)

module _ (xs ys : List ℤ) (fs : List ℕ) (n : ℕ) where
  none_left : (i : ℕ) → n ≤ i → points_text xs ys fs (n - i) i ≡ []
  unfolding points_text
  none_left i h = let e : n - i ≡ 0 = omega arith in rw e refl

  one_more : (i : ℕ) → i < n → points_text xs ys fs (n - i) i ≡ point_text (get_or xs i (pos 0)) (get_or ys i (pos 0)) (get_or fs i 0) ++ points_text xs ys fs (n - (i + 1)) (i + 1)
  unfolding points_text
  one_more i h = let e : n - i ≡ suc (n - (i + 1)) = omega arith in rw e refl

  module _ {out₀ whole out : List ℕ} {at a : ℕ} (i : ℕ) (g : Going out₀ at whole out a (points_text xs ys fs (n - i) i)) where
    pub next_point : {out₁ : List ℕ} {a₁ : ℕ} → i < n → Put out a (point_text (get_or xs i (pos 0)) (get_or ys i (pos 0)) (get_or fs i 0)) out₁ a₁ →
        Going out₀ at whole out₁ a₁ (points_text xs ys fs (n - (i + 1)) (i + 1))
    next_point h p = more_text _ _ (subst (Going out₀ at whole out a) (one_more i h) g) p

    pub all_points : n ≤ i → Put out₀ at whole out a
    all_points h = done (subst (Going out₀ at whole out a) (none_left i h) g)
