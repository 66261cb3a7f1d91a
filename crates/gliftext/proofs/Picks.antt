-- One of two by a test, both, either, and sums that 64 bits hold. Assumes nothing.
use Prim.Native.Nat.{ℕ, suc, ◌+◌, ◌-◌, ◌≤◌, ◌<◌}
use native.Mathlib.Omega.{arith}
use native.Mathlib.Numerals.{add-one}
use mathlib.Core.Bool.{Bool, true, false, not, false≢true, true≢false}
use mathlib.Core.Path.{◌≡◌, refl, sym, ◌∙◌}
use borrow.Author.Tests.{lt-ltb, le-leb}
use Rattle.gliftext.specs.Pick.{pick, both, either, most, more, sum}

pub plain_more : (a : ℕ) → a < most → more a ≡ suc a
unfolding more pick
plain_more a h = rw (lt-ltb a 18446744073709551615 h) (add-one a)

pub plain_sum : (a b : ℕ) → a + b ≤ most → sum a b ≡ a + b
unfolding sum pick
plain_sum a b h = rw (le-leb a (18446744073709551615 - b) (omega arith))

pub pick_by : {A : Type 0} (t : Bool) {x x' y y' : A} → (t ≡ true → x ≡ x') → (t ≡ false → y ≡ y') → pick t x y ≡ pick t x' y'
unfolding pick
pick_by true p q = p refl
pick_by false p q = q refl

pub pick_same : {A : Type 0} (t : Bool) (x : A) → pick t x x ≡ x
unfolding pick
pick_same true x = refl
pick_same false x = refl

pub not-not : (t : Bool) → not (not t) ≡ t
not-not true = refl
not-not false = refl

-- ---- both

pub both_true : (a b : Bool) → both a b ≡ true → (a ≡ true) × (b ≡ true)
unfolding pick
both_true true b e = (refl, e)
both_true false b e = absurd (false≢true e)

pub both_is : (a b : Bool) → a ≡ true → b ≡ true → both a b ≡ true
unfolding pick
both_is a b e h = rw (e, h)

pub both_left : (a b : Bool) → a ≡ false → both a b ≡ false
unfolding pick
both_left a b e = rw e

pub both_right : (a b : Bool) → b ≡ false → both a b ≡ false
unfolding pick
both_right true b e = e
both_right false b e = refl

-- ---- either

pub in_left : (a b : Bool) → a ≡ true → either a b ≡ true
unfolding pick
in_left a b e = rw e

pub in_right : (a b : Bool) → b ≡ true → either a b ≡ true
unfolding pick
in_right true b e = refl
in_right false b e = e

pub or_right : (a b : Bool) → either a b ≡ true → a ≡ false → b ≡ true
unfolding pick
or_right true b e h = absurd (true≢false h)
or_right false b e h = e

pub or_left : (a b : Bool) → either a b ≡ true → b ≡ false → a ≡ true
unfolding pick
or_left true b e h = refl
or_left false b e h = absurd (true≢false (sym e ∙ h))

pub or-false : (a b : Bool) → either a b ≡ false → (a ≡ false) × (b ≡ false)
unfolding pick
or-false true b e = absurd (true≢false e)
or-false false b e = (refl, e)
