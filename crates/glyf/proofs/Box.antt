-- The least and the greatest of a row bound it and stand in it: one law over an order, read twice. Assumes nothing.
use Prim.Native.Nat.{ℕ, zero, suc, ◌<◌}
use mathlib.Core.Bool.{Bool, true, false}
use mathlib.Core.List.{List, [], ◌∷◌}
use mathlib.Core.Path.{◌≡◌, refl}
use native.Mathlib.Omega.{arith}
use borrow.Author.Tests.{leb-true, leb-false, le-leb}
use lib.IntN.{ℤ, pos, negsuc}
use lib.Signed.{le_z}
use lib.ListN.{length, get_or}
use Rattle.glyf.specs.Layout.{pick, least_from, greatest_from, least, greatest}
use Rattle.glyf.specs.Trips.{Stands, BoxBounds}

-- the number that is kept, going through a row by an order
unfoldable kept : (ℤ → ℤ → Bool) → ℤ → List ℤ → ℤ
kept le z [] = z
kept le z (x ∷ xs) = kept le (pick (le z x) z x) xs

record Order (le : ℤ → ℤ → Bool) : Type 0 where
  same : (a : ℤ) → le a a ≡ true
  through : (a b c : ℤ) → le a b ≡ true → le b c ≡ true → le a c ≡ true
  turned : (a b : ℤ) → le a b ≡ false → le b a ≡ true

module _ (le : ℤ → ℤ → Bool) (o : Order le) where
  pick_first : (t : Bool) (z x : ℤ) → le z x ≡ t → le (pick t z x) z ≡ true
  pick_first true z x e = o.same z
  pick_first false z x e = o.turned z x e

  pick_second : (t : Bool) (z x : ℤ) → le z x ≡ t → le (pick t z x) x ≡ true
  pick_second true z x e = e
  pick_second false z x e = o.same x

  below_first : (z : ℤ) (xs : List ℤ) → le (kept le z xs) z ≡ true
  unfolding kept
  below_first z [] = o.same z
  below_first z (x ∷ xs) = o.through _ _ _ (below_first (pick (le z x) z x) xs) (pick_first (le z x) z x refl)

  below_each : (z : ℤ) (xs : List ℤ) (i : ℕ) → i < length xs → le (kept le z xs) (get_or xs i (pos 0)) ≡ true
  unfolding kept
  below_each z [] i h = absurd (omega arith)
  below_each z (x ∷ xs) zero h = o.through _ _ _ (below_first (pick (le z x) z x) xs) (pick_second (le z x) z x refl)
  below_each z (x ∷ xs) (suc i) h = below_each (pick (le z x) z x) xs i (omega arith)

  below_all : (x : ℤ) (xs : List ℤ) (i : ℕ) → i < length (x ∷ xs) → le (kept le x xs) (get_or (x ∷ xs) i (pos 0)) ≡ true
  below_all x xs zero h = below_first x xs
  below_all x xs (suc i) h = below_each x xs i (omega arith)

-- the one that is kept stands in the row, or is the one begun with
later : {x : ℤ} {xs : List ℤ} {v : ℤ} → Stands xs v → Stands (x ∷ xs) v
later s = record { place = suc s.place; inside = omega (arith, s.inside); is = s.is }

-- where another stands after the first
skipped : (z x : ℤ) {xs : List ℤ} {v : ℤ} → Stands (z ∷ xs) v → Stands (z ∷ x ∷ xs) v
skipped z x {xs} {v} s = by s.place s.inside s.is
  where
    by : (k : ℕ) → k < length (z ∷ xs) → get_or (z ∷ xs) k (pos 0) ≡ v → Stands (z ∷ x ∷ xs) v
    by zero h e = record { place = 0; inside = omega arith; is = e }
    by (suc k) h e = record { place = suc (suc k); inside = omega arith; is = e }

stands : (le : ℤ → ℤ → Bool) (z : ℤ) (xs : List ℤ) → Stands (z ∷ xs) (kept le z xs)
unfolding kept
stands le z [] = record { place = 0; inside = omega arith; is = refl }
stands le z (x ∷ xs) = by (le z x) (λ y. stands le y xs)
  where
    by : (t : Bool) → ((y : ℤ) → Stands (y ∷ xs) (kept le y xs)) → Stands (z ∷ x ∷ xs) (kept le (pick t z x) xs)
    by false found = later (found x)
    by true found = skipped z x (found z)

-- ---- the two orders

le_same : (a : ℤ) → le_z a a ≡ true
le_same (pos n) = le-leb n n (omega arith)
le_same (negsuc n) = le-leb n n (omega arith)

le_through : (a b c : ℤ) → le_z a b ≡ true → le_z b c ≡ true → le_z a c ≡ true
le_through (pos a) (pos b) (pos c) h k = le-leb a c (omega (arith, leb-true a b h, leb-true b c k))
le_through (pos a) (pos b) (negsuc c) h k = k
le_through (pos a) (negsuc b) c h k = absurd (let z : ◌≡◌ {A = ℕ} 0 1 = cc in omega arith)
le_through (negsuc a) b (pos c) h k = refl
le_through (negsuc a) (pos b) (negsuc c) h k = absurd (let z : ◌≡◌ {A = ℕ} 0 1 = cc in omega arith)
le_through (negsuc a) (negsuc b) (negsuc c) h k = le-leb c a (omega (arith, leb-true b a h, leb-true c b k))

le_turned : (a b : ℤ) → le_z a b ≡ false → le_z b a ≡ true
le_turned (pos a) (pos b) h = le-leb b a (omega (arith, leb-false a b h))
le_turned (pos a) (negsuc b) h = refl
le_turned (negsuc a) (pos b) h = absurd (let z : ◌≡◌ {A = ℕ} 0 1 = cc in omega arith)
le_turned (negsuc a) (negsuc b) h = le-leb a b (omega (arith, leb-false b a h))

abbrev down : ℤ → ℤ → Bool
down a b = le_z b a

upward : Order le_z
upward = record { same = le_same; through = le_through; turned = le_turned }

downward : Order down
downward = record { same = le_same; through = λ a b c h k. le_through c b a k h; turned = λ a b h. le_turned b a h }

least_is : (z : ℤ) (xs : List ℤ) → least_from z xs ≡ kept le_z z xs
unfolding least_from kept
least_is z [] = refl
least_is z (x ∷ xs) = least_is (pick (le_z z x) z x) xs

greatest_is : (z : ℤ) (xs : List ℤ) → greatest_from z xs ≡ kept down z xs
unfolding greatest_from kept
greatest_is z [] = refl
greatest_is z (x ∷ xs) = greatest_is (pick (le_z x z) z x) xs

pub box_bounds : BoxBounds
unfolding least greatest
box_bounds [] = record { low = λ i h. absurd (omega arith); high = λ i h. absurd (omega arith); low_stands = λ h. absurd (omega arith); high_stands = λ h. absurd (omega arith) }
box_bounds (x ∷ xs) = record {
  low = λ i h. rw (least_is x xs) (below_all le_z upward x xs i h);
  high = λ i h. rw (greatest_is x xs) (below_all down downward x xs i h);
  low_stands = λ h. rw (least_is x xs) (stands le_z x xs);
  high_stands = λ h. rw (greatest_is x xs) (stands down x xs);
}
