-- Of two floats one is less at most, and none is less than a NaN. Assumes nothing.
use Rattle.std.proofs.Common.{◌≡◌, ℕ, zero, suc, ◌+◌, ◌*◌, ◌<◌, Bool, true, false, ◌&&◌, ◌||◌, eqb, ltb, refl, arith, ltb-true, le-ltb, ne_eqb}
use mathlib.Core.Bool.{beq, false≢true}
use lib.Ieee.{Float, nan, inf, fin, up, down, lt, le, level}

below_false : (A B : ℕ) → A < B → ltb B A || level false B false A ≡ false
below_false A B h = rw (le-ltb B A (omega arith), ne_eqb B A (λ e. omega arith))

below_true : (A B : ℕ) → B < A → ltb A B || level true B true A ≡ false
below_true A B h = rw (le-ltb A B (omega arith), ne_eqb B A (λ e. omega arith))

pub apart_signs : (A B : ℕ) → 0 < A + B → level false B true A ≡ false
apart_signs A zero h = rw (ne_eqb 0 A (λ e. omega arith))
apart_signs A (suc B) h = rw (ne_eqb (suc B) 0 (λ e. omega arith)) (by (eqb (suc B) A))
  where
    by : (c : Bool) → c && (beq false true || false) ≡ false
    by true = refl
    by false = refl

pub not_less : (x y : Float) → lt x y ≡ true → le y x ≡ false
unfolding le lt
not_less nan y h = absurd (false≢true h)
not_less (inf true) nan h = absurd (false≢true h)
not_less (inf false) nan h = absurd (false≢true h)
not_less (inf true) (inf true) h = absurd (false≢true h)
not_less (inf true) (inf false) h = refl
not_less (inf false) (inf t) h = absurd (false≢true h)
not_less (inf true) (fin t n d) h = refl
not_less (inf false) (fin t n d) h = absurd (false≢true h)
not_less (fin s m e) nan h = absurd (false≢true h)
not_less (fin s m e) (inf true) h = absurd (false≢true h)
not_less (fin s m e) (inf false) h = refl
not_less (fin false m e) (fin false n d) h = below_false (m * up e * down d) (n * up d * down e) (ltb-true (m * up e * down d) (n * up d * down e) h)
not_less (fin false m e) (fin true n d) h = absurd (false≢true h)
not_less (fin true m e) (fin false n d) h =
    apart_signs (m * up e * down d) (n * up d * down e) (ltb-true 0 (m * up e * down d + n * up d * down e) h)
not_less (fin true m e) (fin true n d) h = below_true (m * up e * down d) (n * up d * down e) (ltb-true (n * up d * down e) (m * up e * down d) h)

first : (p q : Bool) → p || q ≡ false → p ≡ false
first true q h = h
first false q h = refl

pub not_both : (x y : Float) → lt x y ≡ true → lt y x ≡ false
unfolding le
not_both x y h = first (lt y x) _ (not_less x y h)

pub less_nan : (x : Float) → lt x nan ≡ false
unfolding lt
less_nan nan = refl
less_nan (inf s) = refl
less_nan (fin s m e) = refl
