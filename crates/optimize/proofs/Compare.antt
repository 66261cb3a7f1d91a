-- `le` and `lt` on floats that are no NaN: `le` is reflexive and transitive, where x is not less than y, y is at most x, and `lt` goes through both.
-- Assumes nothing.
use Prim.Native.Nat.{ℕ, zero, suc, ◌+◌, ◌*◌, ◌≤◌, ◌<◌}
use mathlib.Core.Bool.{Bool, true, false, ◌&&◌, ◌||◌, false≢true, true≢false}
use mathlib.Core.Logic.{◌⊎◌, inl, inr}
use mathlib.Core.Path.{◌≡◌, refl, subst}
use native.Mathlib.Nat.{zero-lt-suc, mul-pos, eq-or-lt_of_le, eq-zero-or-pos}
use native.Mathlib.Omega.{arith}
use borrow.Author.Tests.{ltb-false, eq-eqb}
use lib.Dec.{T, ltb, eqb, ltb→lt, lt→ltb, eqb→eq}
use lib.Ieee.{Float, nan, inf, fin, up, down, below, level, lt, eq, le, is_nan}
use lib.Ieee.Fits.{down_pos}
use lib.Ieee.Positive.{through}
use Rattle.float.proofs.Less.{not_less}

or_left : (a b : Bool) → T a → T (a || b)
or_left true b t = tt
or_left false b t = elim t [ ]

or_right : (a b : Bool) → T b → T (a || b)
or_right true b t = tt
or_right false b t = t

-- ---- two sizes with their signs: ±a ≤ ±b

abbrev Le : Bool → ℕ → Bool → ℕ → Type 0
Le false a false b = a ≤ b
Le false a true b = (a ≡ 0) × (b ≡ 0)
Le true a false b = Unit
Le true a true b = b ≤ a

le_is : (s t : Bool) (a b : ℕ) → T (below s a t b || level s a t b) → Le s a t b
le_is false false a b h = go (ltb a b) (eqb a b) (ltb→lt a b) (eqb→eq a b) h
  where
    go : (p q : Bool) → (T p → a < b) → (T q → a ≡ b) → T (p || (q && true)) → a ≤ b
    go true q k l h = let g = k tt in omega arith
    go false true k l h = let g = l tt in omega arith
    go false false k l h = absurd h
le_is false true a b h = go (eqb a b) (eqb a 0) (eqb→eq a b) (eqb→eq a 0) h
  where
    go : (p q : Bool) → (T p → a ≡ b) → (T q → a ≡ 0) → T (p && q) → (a ≡ 0) × (b ≡ 0)
    go true true k l h =
        let e = k tt in
        let z = l tt in
        (z, omega arith)
    go true false k l h = absurd h
    go false q k l h = absurd h
le_is true false a b h = tt
le_is true true a b h = go (ltb b a) (eqb a b) (ltb→lt b a) (eqb→eq a b) h
  where
    go : (p q : Bool) → (T p → b < a) → (T q → a ≡ b) → T (p || (q && true)) → b ≤ a
    go true q k l h = let g = k tt in omega arith
    go false true k l h = let g = l tt in omega arith
    go false false k l h = absurd h

same_level : (a b : ℕ) → a ≡ b → T (eqb a b && true)
same_level a b e = rw (eq-eqb a b e) tt

le_of : (s t : Bool) (a b : ℕ) → Le s a t b → T (below s a t b || level s a t b)
le_of false false a b h = go (eq-or-lt_of_le h)
  where
    go : (a ≡ b) ⊎ (a < b) → T (ltb a b || (eqb a b && true))
    go (inl e) = or_right (ltb a b) _ (same_level a b e)
    go (inr l) = or_left (ltb a b) _ (lt→ltb a b l)
le_of false true a b h = rw (h.0, h.1) tt
le_of true false a b h = go (eq-zero-or-pos (a + b))
  where
    go : (a + b ≡ 0) ⊎ (0 < a + b) → T (ltb 0 (a + b) || (eqb a b && (false || eqb a 0)))
    go (inl e) =
        let za : a ≡ 0 = omega arith in
        let zb : b ≡ 0 = omega arith in
        rw (za, zb) tt
    go (inr l) = or_left (ltb 0 (a + b)) _ (lt→ltb 0 (a + b) l)
le_of true true a b h = go (eq-or-lt_of_le h)
  where
    go : (b ≡ a) ⊎ (b < a) → T (ltb b a || (eqb a b && true))
    go (inl e) = or_right (ltb b a) _ (same_level a b (omega arith))
    go (inr l) = or_left (ltb b a) _ (lt→ltb b a l)

not_below : (s t : Bool) (a b : ℕ) → below s a t b ≡ false → Le t b s a
not_below false false a b h = ltb-false a b h
not_below false true a b h = tt
not_below true false a b h = let z = ltb-false 0 (a + b) h in (omega arith, omega arith)
not_below true true a b h = ltb-false b a h

-- ---- through a third

none_left : (a d : ℕ) → 0 < d → a * d ≡ 0 → a ≡ 0
none_left zero d p e = refl
none_left (suc a) d p e = absurd (omega (arith, mul-pos (zero-lt-suc a) p))

none : {a : ℕ} (d : ℕ) → a ≡ 0 → a * d ≡ 0
none d e = rw e (omega arith)

module _ (x y z p q r : ℕ) (P : 0 < p) (Q : 0 < q) (R : 0 < r) where
  over : (s t u : Bool) → Le s (x * q) t (y * p) → Le t (y * r) u (z * q) → Le s (x * r) u (z * p)
  over false false false h k = through x y z p q r Q h k
  over false false true h k =
      let y0 = none_left y r R k.0 in
      let x0 = none_left x q Q (omega (arith, none p y0)) in
      (none r x0, none p (none_left z q Q k.1))
  over false true false h k = omega (arith, none r (none_left x q Q h.0))
  over false true true h k =
      let y0 = none_left y p P h.1 in
      (none r (none_left x q Q h.0), none p (none_left z q Q (omega (arith, none r y0))))
  over true false false h k = tt
  over true false true h k = omega (arith, none p (none_left z q Q k.1))
  over true true false h k = tt
  over true true true h k = through z y x r q p Q k h

-- ---- floats

right_number : (x y : Float) → T (le x y) → is_nan y ≡ false
unfolding le is_nan
right_number nan y h = absurd h
right_number (inf s) nan h = absurd (no s h)
  where
    no : (s : Bool) → T (false || false) → ⊥
    no s h = h
right_number (inf s) (inf t) h = refl
right_number (inf s) (fin t n d) h = refl
right_number (fin s m e) nan h = absurd h
right_number (fin s m e) (inf t) h = refl
right_number (fin s m e) (fin t n d) h = refl

least : (y : Float) → is_nan y ≡ false → T (le (inf true) y)
unfolding le is_nan
least nan h = absurd (true≢false h)
least (inf true) h = tt
least (inf false) h = tt
least (fin t n d) h = tt

pub le_through : (x y z : Float) → T (le x y) → T (le y z) → T (le x z)
unfolding le
le_through nan y z h k = absurd h
le_through (inf true) y z h k = least z (right_number y z k)
le_through (inf false) nan z h k = absurd h
le_through (inf false) (inf true) z h k = absurd h
le_through (inf false) (inf false) z h k = k
le_through (inf false) (fin t n d) z h k = absurd h
le_through (fin s m e) nan z h k = absurd h
le_through (fin s m e) (inf true) z h k = absurd h
le_through (fin s m e) (inf false) nan h k = absurd k
le_through (fin s m e) (inf false) (inf true) h k = absurd k
le_through (fin s m e) (inf false) (inf false) h k = tt
le_through (fin s m e) (inf false) (fin u p g) h k = absurd k
le_through (fin s m e) (fin t n d) nan h k = absurd k
le_through (fin s m e) (fin t n d) (inf true) h k = absurd k
le_through (fin s m e) (fin t n d) (inf false) h k = tt
le_through (fin s m e) (fin t n d) (fin u p g) h k =
    le_of s u (m * up e * down g) (p * up g * down e)
    (over (m * up e) (n * up d) (p * up g) (down e) (down d) (down g) (down_pos e) (down_pos d) (down_pos g) s t u
    (le_is s t (m * up e * down d) (n * up d * down e) h)
    (le_is t u (n * up d * down g) (p * up g * down d) k))

pub le_self : (x : Float) → is_nan x ≡ false → T (le x x)
unfolding le is_nan
le_self nan h = absurd (true≢false h)
le_self (inf true) h = tt
le_self (inf false) h = tt
le_self (fin true m e) h = le_of true true (m * up e * down e) (m * up e * down e) (omega arith)
le_self (fin false m e) h = le_of false false (m * up e * down e) (m * up e * down e) (omega arith)

pub lt_le : (x y : Float) → lt x y ≡ true → T (le x y)
unfolding le
lt_le x y h = or_left (lt x y) (eq x y) (rw h tt)

pub lt_number : (x y : Float) → lt x y ≡ true → is_nan x ≡ false
unfolding lt is_nan
lt_number nan y h = absurd (false≢true h)
lt_number (inf s) y h = refl
lt_number (fin s m e) y h = refl

-- x is not less than y
pub not_lt_le : (x y : Float) → is_nan x ≡ false → is_nan y ≡ false → lt x y ≡ false → T (le y x)
unfolding lt le is_nan
not_lt_le nan y a b h = absurd (true≢false a)
not_lt_le (inf s) nan a b h = absurd (true≢false b)
not_lt_le (inf true) (inf true) a b h = tt
not_lt_le (inf true) (inf false) a b h = absurd (true≢false h)
not_lt_le (inf false) (inf true) a b h = tt
not_lt_le (inf false) (inf false) a b h = tt
not_lt_le (inf true) (fin t n d) a b h = absurd (true≢false h)
not_lt_le (inf false) (fin t n d) a b h = tt
not_lt_le (fin s m e) nan a b h = absurd (true≢false b)
not_lt_le (fin s m e) (inf true) a b h = tt
not_lt_le (fin s m e) (inf false) a b h = absurd (true≢false h)
not_lt_le (fin s m e) (fin t n d) a b h =
    le_of t s (n * up d * down e) (m * up e * down d) (not_below s t (m * up e * down d) (n * up d * down e) h)

-- ---- `lt` through a third

lt_right : (x y : Float) → lt x y ≡ true → is_nan y ≡ false
lt_right x y h = right_number x y (lt_le x y h)

lt_not_ge : (x y : Float) → lt x y ≡ true → T (le y x) → ⊥
lt_not_ge x y h k = subst T (not_less x y h) k

pub lt_self : (x : Float) → lt x x ≡ false
lt_self x = go (lt x x) refl
  where
    go : (t : Bool) → lt x x ≡ t → t ≡ false
    go true h = absurd (lt_not_ge x x h (lt_le x x h))
    go false h = refl

lt_then_le : (x y z : Float) → lt x y ≡ true → T (le y z) → lt x z ≡ true
lt_then_le x y z h k = go (lt x z) refl
  where
    go : (t : Bool) → lt x z ≡ t → t ≡ true
    go true l = refl
    go false l = absurd (lt_not_ge x y h (le_through y z x k (not_lt_le x z (lt_number x y h) (right_number y z k) l)))

pub lt_lt : (x y z : Float) → lt x y ≡ true → lt y z ≡ true → lt x z ≡ true
lt_lt x y z h k = lt_then_le x y z h (lt_le y z k)

-- x is less than y, z is a number that is not less than y
pub lt_beyond : (x y z : Float) → is_nan z ≡ false → lt x y ≡ true → lt z y ≡ false → lt x z ≡ true
lt_beyond x y z number h k = lt_then_le x y z h (not_lt_le z y number (lt_right x y h) k)
