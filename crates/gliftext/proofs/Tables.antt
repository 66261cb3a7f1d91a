-- The tables, inside and outside; and UTF-8 byte by byte. Assumes nothing.
use Prim.Native.Nat.{ℕ, ◌+◌, ◌*◌, ◌<◌, ◌≤◌}
use mathlib.Core.List.{List}
use mathlib.Core.Path.{◌≡◌, refl, ◌∙◌}
use native.Mathlib.Numerals.{add-one}
use native.Mathlib.Omega.{arith}
use borrow.Author.Tests.{lt-ltb, le-ltb}
use lib.Dec.{eqb}
use lib.ListN.{length, get_or}
use Rattle.gliftext.specs.Pick.{pick}
use Rattle.gliftext.specs.Table.{table, move_of}
use Rattle.gliftext.specs.Utf8.{rune_table, rune_class, rune_on, rune_at, is_utf8}

pub moves_in : (s k : ℕ) → s < 62 → k < 23 → get_or table (s * 23 + k) 0 ≡ move_of s k
unfolding move_of pick
moves_in s k h g = rw (lt-ltb s 62 h, lt-ltb k 23 g)

pub moves_past : (s k : ℕ) → s < 62 → 23 ≤ k → 61 ≡ move_of s k
unfolding move_of pick
moves_past s k h g = rw (lt-ltb s 62 h, le-ltb k 23 g)

pub moves_out : (s k : ℕ) → 62 ≤ s → 61 ≡ move_of s k
unfolding move_of pick
moves_out s k h = rw (le-ltb s 62 h)

pub runes_in : (s k : ℕ) → s < 11 → k < 15 → get_or rune_table (s * 15 + k) 0 ≡ rune_on s k
unfolding rune_on pick
runes_in s k h g = rw (lt-ltb s 11 h, lt-ltb k 15 g)

pub runes_past : (s k : ℕ) → s < 11 → 15 ≤ k → 10 ≡ rune_on s k
unfolding rune_on pick
runes_past s k h g = rw (lt-ltb s 11 h, le-ltb k 15 g)

pub runes_out : (s k : ℕ) → 11 ≤ s → 10 ≡ rune_on s k
unfolding rune_on pick
runes_out s k h = rw (le-ltb s 11 h)

-- ---- UTF-8

pub runs_from : (bs : List ℕ) → 0 ≡ rune_at bs 0
unfolding rune_at
runs_from bs = refl

pub runs_on : (bs : List ℕ) (i : ℕ) {state k r : ℕ} → state ≡ rune_at bs i → k ≡ rune_class (get_or bs i 0) → r ≡ rune_on state k → r ≡ rune_at bs (i + 1)
unfolding rune_at
runs_on bs i e f g = g ∙ rw (e, f, add-one)

pub runs_out : (bs : List ℕ) {i state : ℕ} → i ≤ length bs → length bs ≤ i → state ≡ rune_at bs i → eqb state 0 ≡ is_utf8 bs
unfolding is_utf8
runs_out bs {i} h k e =
    let n : i ≡ length bs = omega arith in
    rw (e, n)
