-- How many breaks: `find_breaks` with room for a break at each place finds them all, and with any other room it finds these, or 7 where they are more.
-- Assumes nothing.
use Prim.Native.Nat.{ℕ, zero, suc, ◌+◌, ◌-◌, ◌≤◌, ◌<◌}
use mathlib.Core.Bool.{Bool, true, false}
use mathlib.Core.List.{List, [], ◌∷◌, ◌++◌}
use mathlib.Core.Path.{◌≡◌, refl}
use native.Mathlib.Omega.{arith}
use borrow.Author.Tests.{leb-true, leb-false, lt-leb}
use lib.Dec.{leb}
use lib.ListN.{length, set, length-append, length-set}
use lib.Ieee.{Float, lt}
use Rattle.float.specs.Numbers.{nought}
use Rattle.geometry.specs.declared.Break.{Break}
use Rattle.breaks.specs.declared.Grid.{Grid}
use Rattle.breaks.specs.declared.Placed.{Placed}
use Rattle.breaks.specs.declared.Stopped as S
use Rattle.breaks.specs.declared.Stopped.TheVariants as Stopped
use Rattle.std.specs.Prelude.{Result}
use Rattle.breaks.specs.Breaks.{Row, packed_of, place_of, places_of, Finding, so, stopped, pushed_if, opened, replaced_if, joined_if, opens, join_of, stepped, walk, breaks_of}
use Rattle.survey.specs.Never.{Finds}
use Rattle.survey.proofs.Inside.{IsAt, is_at}

module _ (room most : ℕ) where
  -- after i places: the breaks so far with the room `room`, and with the room `most`, which is not used up
  data Ahead (i : ℕ) : Finding → Finding → Type 0 where
    same : {row : Row} {d : Float} → length row ≤ i → length row ≤ room → Ahead i (so row d) (so row d)
    over : {row : Row} {d : Float} → length row ≤ i → room < length row → Ahead i (stopped Stopped.Full) (so row d)

  longer : (row : Row) (b : Break) → length (row ++ (packed_of b ∷ [])) ≡ length row + 1
  longer row b = length-append row (packed_of b ∷ [])

  module _ (i : ℕ) (less : i < most) (row : Row) (short : length row ≤ i) where
    -- a new break
    roomy : (b : Break) (dist : Float) → opened most row b dist ≡ so (row ++ (packed_of b ∷ [])) dist
    unfolding opened
    roomy b dist = rw (lt-leb most (length row) (omega arith)) refl

    pushed_ahead : (t : Bool) (b : Break) (dist : Float) → leb room (length row) ≡ t → Ahead (i + 1) (pushed_if t row b dist) (so (row ++ (packed_of b ∷ [])) dist)
    pushed_ahead true b dist e = over {row = row ++ (packed_of b ∷ [])} (omega (arith, longer row b)) (omega (arith, longer row b, leb-true room (length row) e))
    pushed_ahead false b dist e = same {row = row ++ (packed_of b ∷ [])} (omega (arith, longer row b)) (omega (arith, longer row b, leb-false room (length row) e))

    opened_ahead : (b : Break) (dist : Float) → Ahead (i + 1) (opened room row b dist) (opened most row b dist)
    unfolding opened
    opened_ahead b dist = rw (lt-leb most (length row) (omega arith)) (pushed_ahead (leb room (length row)) b dist refl)

    -- where there is room so far
    module _ (fits : length row ≤ room) where
      replaced_ahead : (t : Bool) (d : Float) (b : Break) → Ahead (i + 1) (replaced_if t row d b) (replaced_if t row d b)
      replaced_ahead true d b =
          let n = length-set row (length row - 1) (packed_of b) in
          same {row = set row (length row - 1) (packed_of b)} (omega arith) (omega arith)
      replaced_ahead false d b = same {row = row} (omega arith) fits

      joined_ahead : (t : Bool) (d : Float) (b : Break) (dist : Float) → Ahead (i + 1) (joined_if t room row d b dist) (joined_if t most row d b dist)
      joined_ahead true d b dist = opened_ahead b dist
      joined_ahead false d b dist = replaced_ahead (lt dist d) d b

    -- where there was not
    module _ (many : room < length row) where
      replaced_over : (t : Bool) (d : Float) (b : Break) → Ahead (i + 1) (stopped Stopped.Full) (replaced_if t row d b)
      replaced_over true d b =
          let n = length-set row (length row - 1) (packed_of b) in
          over {row = set row (length row - 1) (packed_of b)} (omega arith) (omega arith)
      replaced_over false d b = over {row = row} (omega arith) many

      joined_over : (t : Bool) (d : Float) (b : Break) (dist : Float) → Ahead (i + 1) (stopped Stopped.Full) (joined_if t most row d b dist)
      joined_over true d b dist = rw (roomy b dist) (over {row = row ++ (packed_of b ∷ [])} (omega (arith, longer row b)) (omega (arith, longer row b)))
      joined_over false d b dist = replaced_over (lt dist d) d b

  step_ahead : (i : ℕ) → i < most → {f f' : Finding} {p : Result Placed S.Stopped} → Ahead i f f' → IsAt p → Ahead (i + 1) (stepped room f p) (stepped most f' p)
  unfolding join_of
  step_ahead i less (same {row} {d} short fits) (is_at p) = joined_ahead i less row short fits (opens row p.place.xy) d p.place p.dist
  step_ahead i less (over {row} {d} short many) (is_at p) = joined_over i less row short many (opens row p.place.xy) d p.place p.dist

  walk_ahead : (k : ℕ) (place : ℕ → Result Placed S.Stopped) (i : ℕ) → ((j : ℕ) → j < most → IsAt (place j)) → i + k ≤ most → {f f' : Finding} → Ahead i f f' →
      Ahead (i + k) (walk k room place i f) (walk k most place i f')
  unfolding walk
  walk_ahead zero place i all h {f} {f'} a = let e : i + 0 ≡ i = omega arith in rw e a
  walk_ahead (suc k) place i all h a =
      let e : i + suc k ≡ i + 1 + k = omega arith in
      rw e (walk_ahead k place (i + 1) all (omega arith) (step_ahead i (omega arith) a (all i (omega arith))))

module _ (room : ℕ) (samples : List (List Float)) (g : Grid) (len : Float) where
  abbrev most : ℕ
  most = suc (places_of len)

  abbrev found : ℕ → Finding
  found n = walk most n (place_of samples g len) 0 (so [] nought)

  finds_by : (f f' : Finding) → found room ≡ f → found most ≡ f' → {i : ℕ} → Ahead room most i f f' → Finds room samples g len
  unfolding breaks_of
  finds_by f f' e e' (same {row} {d} short fits) =
      record { row = row; all = rw e' refl; fits = λ h. rw e refl; short = λ h. absurd (omega arith) }
  finds_by f f' e e' (over {row} {d} short many) =
      record { row = row; all = rw e' refl; fits = λ h. absurd (omega arith); short = λ h. rw e refl }

  pub finds : ((i : ℕ) → i ≤ places_of len → IsAt (place_of samples g len i)) → Finds room samples g len
  finds all =
      finds_by _ _ refl refl
      (walk_ahead room most most (place_of samples g len) 0 (λ i h. all i (omega arith)) (omega arith) (same {row = []} {d = nought} (omega arith) (omega arith)))
