-- A whole chain: the numbers of its stored answers stand at the end of a row, of 4096 where it is put. Assumes nothing.
use Rattle.std.specs.Prelude.{Some, None}
use Prim.Native.Nat.{ℕ, min, ◌-◌, ◌≤◌, ◌<◌}
use native.Mathlib.Omega.{arith}
use mathlib.Core.Bool.{Bool}
use mathlib.Core.List.{List, map}
use mathlib.Core.Path.{◌≡◌, refl, sym, ap, ◌∙◌}
use borrow.Author.Tests.{lt-ltb, le-ltb}
use lib.Ieee.{Float}
use lib.ListN.{length, drop, length-map, length-drop}
use Rattle.breaks.specs.Breaks.{Row}
use Rattle.attempt.specs.Answers.{Statelet, first, on}
use Rattle.optimize.specs.Stored.{Anywhere, Holds}
use Rattle.pieces.specs.Pieces.{pieces_of}
use Rattle.pieces.specs.Slots.{Falls, slots_of, piece_of, stored_quad, quads_of, Chain, chain, chained, left, room_of, put_if, put_of, Within, Legible, Each, Stored, Held}
use Rattle.pieces.proofs.Slots.{falls, pieces_are, quads_are, last_legible, all_legible}

-- more breaks
within_more : (n m : ℕ) (a : Statelet) → n ≤ m → Within n a → Within m a
unfolding Within
within_more n m (first p s) h w = (omega (arith, w.0), omega (arith, w.1))
within_more n m (on a p s) h w = (within_more n m a h w.0, (omega (arith, w.1.0), omega (arith, w.1.1)))

module _ {breaks : Row} {answers : List (List Float)} {links : List ℕ} {k : ℕ} where
  -- what the walk back from k asks
  pub walkable : Stored breaks answers links k → Falls links k × (k < 4096) × (k < 4096)
  walkable s =
      let low : k < 4096 = omega (arith, (last_legible (length breaks) s.holds s.within).to, s.few) in
      (falls s.holds, low, low)

-- the shortest row has room, so each has
pub enough : (most : ℕ) (starts ends : List ℕ) (xs ys : List Float) {room n m : ℕ} → room ≡ min most (room_of (chain starts ends xs ys)) → n ≤ room → m ≡ n →
    (m ≤ length starts) × (m ≤ length ends) × (m ≤ length xs) × (m ≤ length ys)
enough most starts ends xs ys e h same = (omega arith, omega arith, omega arith, omega arith)

module _ (slots : List ℕ) (r : ℕ) {answers : List (List Float)} {links : List ℕ} {k : ℕ} where
  pub all_read : drop r slots ≡ slots_of links k → {breaks : Row} → Stored breaks answers links k → Each (Legible (length breaks) answers links) (drop r slots)
  all_read is {breaks} s = rw is (all_legible (length breaks) s.holds s.within)

  pub all_held : drop r slots ≡ slots_of links k → Held answers links k → Each (Legible 2048 answers links) (drop r slots)
  all_held is h =
      let s = h.stored in
      rw is (all_legible 2048 s.holds (within_more (length h.breaks) 2048 s.answer s.few s.within))

  module _ (is : drop r slots ≡ slots_of links k) {breaks : Row} {a : Statelet} (h : Holds Anywhere breaks answers links k a) where
    pub quads_there : map (stored_quad breaks answers links) (drop r slots) ≡ quads_of a
    quads_there = ap (map (stored_quad breaks answers links)) is ∙ quads_are h

    pieces_there : map (piece_of answers links) (drop r slots) ≡ pieces_of a
    pieces_there = ap (map (piece_of answers links)) is ∙ pieces_are h

    count : length (pieces_of a) ≡ length slots - r
    count = sym (ap length pieces_there) ∙ length-map (drop r slots) (piece_of answers links) ∙ length-drop r slots

    module _ (most : ℕ) (c : Chain) {room : ℕ} (room_is : room ≡ min most (room_of c)) (long : length slots ≡ 4096) where
      pub put_over : room < 4096 - r → put_of most (pieces_of a) c ≡ left None c
      unfolding put_of
      put_over less =
          let more : min most (room_of c) < length (pieces_of a) = omega (arith, count) in
          ap (λ (b : Bool). put_if b (pieces_of a) c) (lt-ltb (min most (room_of c)) (length (pieces_of a)) more)

      pub put_in : {d : Chain} → 4096 - r ≤ room → d ≡ chained (map (piece_of answers links) (drop r slots)) c → put_of most (pieces_of a) c ≡ left (Some (4096 - r)) d
      unfolding put_of
      put_in {d} fits e =
          let enough : length (pieces_of a) ≤ min most (room_of c) = omega (arith, count) in
          let many : length (pieces_of a) ≡ 4096 - r = omega (arith, count) in
          ap (λ (b : Bool). put_if b (pieces_of a) c) (le-ltb (min most (room_of c)) (length (pieces_of a)) enough) ∙ rw (many, e, pieces_there) refl
