-- The middle of two coordinates, halves away from zero. Assumes nothing.
use Prim.Native.Nat.{ℕ, suc, ◌+◌, ◌-◌, ◌/◌, ◌≤◌, ◌<◌}
use mathlib.Core.Bool.{Bool, true, false}
use mathlib.Core.Path.{◌≡◌, refl}
use native.Mathlib.Omega.{arith}
use borrow.Author.Tests.{lt-ltb, le-ltb, le-leb, ltb-true, ltb-false}
use lib.Dec.{ltb}
use lib.IntN.{pos, negsuc, ◌+ℤ◌}
use Rattle.lines.specs.Line.{negative}
use Rattle.gliftext.specs.Pick.{pick, more, sum}
use Rattle.glifread.specs.Enter.{middle_of, signed_of}
use Rattle.glifread.specs.Middles.{half_away, MiddleIsAway, CountedIsItself}

plain_sum : (a b : ℕ) → a ≤ 65535 → b ≤ 65535 → sum a b ≡ a + b
unfolding sum pick
plain_sum a b h k = rw (le-leb a (18446744073709551615 - b) (omega arith))

plain_more : (a : ℕ) → a ≤ 131070 → more a ≡ a + 1
unfolding more pick
plain_more a h = rw (lt-ltb a 18446744073709551615 (omega arith))

low : (a b : ℕ) → a ≤ 65535 → b ≤ 65535 → a + b < 65536 → middle_of a b ≡ (a + b) / 2
unfolding middle_of pick
low a b h k l = rw (plain_sum a b h k, lt-ltb (a + b) 65536 l)

high : (a b : ℕ) → a ≤ 65535 → b ≤ 65535 → 65536 ≤ a + b → middle_of a b ≡ (a + b + 1) / 2
unfolding middle_of pick
high a b h k l = rw (plain_sum a b h k, le-ltb (a + b) 65536 l, plain_more (a + b) (omega arith))

below : (v : ℕ) → v < 32768 → signed_of v ≡ negative (32768 - v)
unfolding signed_of pick
below v h = rw (lt-ltb 0 (32768 - v) (omega arith))

above : (v : ℕ) → 32768 ≤ v → v < 65536 → signed_of v ≡ pos (v - 32768)
unfolding signed_of pick
above v h k = rw (le-ltb 0 (32768 - v) (omega arith), lt-ltb (v - 32768) 32768 (omega arith))

-- from the sum of two counted coordinates, which is 65536 above theirs
from_low : (a b n : ℕ) → a ≤ 65535 → b ≤ 65535 → a + b + suc n ≡ 65536 → signed_of (middle_of a b) ≡ half_away (negsuc n)
from_low a b n h k e =
    let m : 32768 - (a + b) / 2 ≡ (n + 2) / 2 = omega arith in
    rw (low a b h k (omega arith), below ((a + b) / 2) (omega arith), m)

from_high : (a b n : ℕ) → a ≤ 65535 → b ≤ 65535 → a + b ≡ 65536 + n → signed_of (middle_of a b) ≡ half_away (pos n)
from_high a b n h k e =
    let m : (a + b + 1) / 2 - 32768 ≡ (n + 1) / 2 = omega arith in
    rw (high a b h k (omega arith), above ((a + b + 1) / 2) (omega arith) (omega arith), m)

mixed : (m n : ℕ) (a b : ℕ) → a ≤ 65535 → b ≤ 65535 → a + b + suc n ≡ 65536 + m → (t : Bool) → ltb m (suc n) ≡ t → signed_of (middle_of a b) ≡ half_away
    (pos m +ℤ negsuc n)
mixed m n a b h k e true f = rw f (from_low a b (suc n - suc m) h k (omega (arith, ltb-true m (suc n) f)))
mixed m n a b h k e false f = rw f (from_high a b (m - suc n) h k (omega (arith, ltb-false m (suc n) f)))

pub middle_is_away : MiddleIsAway
middle_is_away (pos m) (pos n) h k = from_high (32768 + m) (32768 + n) (m + n) (omega arith) (omega arith) (omega arith)
middle_is_away (pos m) (negsuc n) h k = mixed m n (32768 + m) (32767 - n) (omega arith) (omega arith) (omega arith) (ltb m (suc n)) refl
middle_is_away (negsuc m) (pos n) h k = turned (ltb n (suc m)) refl
  where
    turned : (t : Bool) → ltb n (suc m) ≡ t → signed_of (middle_of (32767 - m) (32768 + n)) ≡ half_away (negsuc m +ℤ pos n)
    turned true f = rw f (from_low (32767 - m) (32768 + n) (suc m - suc n) (omega arith) (omega arith) (omega (arith, ltb-true n (suc m) f)))
    turned false f = rw f (from_high (32767 - m) (32768 + n) (n - suc m) (omega arith) (omega arith) (omega (arith, ltb-false n (suc m) f)))
middle_is_away (negsuc m) (negsuc n) h k = from_low (32767 - m) (32767 - n) (suc (m + n)) (omega arith) (omega arith) (omega arith)

pub counted_is_itself : CountedIsItself
counted_is_itself (pos n) h =
    let m : 32768 + n - 32768 ≡ n = omega arith in
    rw (above (32768 + n) (omega arith) (omega arith), m)
counted_is_itself (negsuc n) h =
    let m : 32768 - (32767 - n) ≡ suc n = omega arith in
    rw (below (32767 - n) (omega arith), m)
