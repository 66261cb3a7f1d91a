-- Laws for callers, of a run's breaks: there is one, they are no more than there was room for, each is a point brought to the grid, so that its
-- coordinates are doubles, and more room changes no answer but refusal 7. Assumes nothing.
use Prim.Native.Nat.{ℕ, zero, suc, ◌+◌, ◌-◌, ◌≤◌, ◌<◌}
use Rattle.std.proofs.Common.{arith, subst, length-append, length-set, get_or-set_same, get_or-set_other}
use Rattle.std.proofs.Math.Decide.{ℕ_discrete, dec_lt}
use Rattle.std.specs.Prelude.{Bool, ◌≡◌, T, leb, set, Float, Option, Some, None, Result, Ok, Err}
use Rattle.std.proofs.Math.Bool.{true, false}
use mathlib.Core.List.{List, [], ◌∷◌, ◌++◌}
use Rattle.std.proofs.Math.Path.{refl}
use borrow.Author.Tests.{leb-false, lt-leb}
use Rattle.std.proofs.Math.ListN.{length, get_or-append}
use Rattle.std.proofs.Math.Seq.{get_or-append_seam}
use Rattle.std.specs.Float.{binary64}
use Rattle.std.specs.Float.Ieee.{fits, lt, to_unsigned}
use Rattle.std.specs.Float.Ieee.Fits.{mul-fits}
use Rattle.float.specs.Numbers.{nought}
use Rattle.geometry.specs.declared.Break.{Break}
use Rattle.geometry.specs.declared.Point.{Point}
use Rattle.refusals.specs.declared.refusal.Refusal.{Refusal}
use Rattle.refusals.specs.declared.refusal.Refusal.TheVariants.{TooManyBreaks}
use Rattle.lookup.specs.Lookup.{xy_at, dir_at}
use Rattle.breaks.specs.declared.Grid.{Grid}
use Rattle.breaks.specs.declared.Placed.{Placed}
use Rattle.breaks.specs.declared.Stopped as S
use Rattle.breaks.specs.declared.Stopped.TheVariants as Stopped
use Rattle.breaks.specs.Breaks.{Row, on_grid, packed_of, break_at, placed, unless_past, place_at, place_of, places_of, Finding, so, stopped}
use Rattle.breaks.specs.Breaks.{pushed_if, opened, replaced_if, joined_if, opens, join_of, stepped, walk}
use Rattle.breaks.specs.Breaks.{RunBreaks, breaks, refused, unchanged, stopped_as, run_breaks_of, breaks_of}

-- q is a point brought to the grid
pub record Brought (g : Grid) (q : Point) : Type 0 where
  pub of : Point
  pub x : q.x ≡ on_grid g of.x
  pub y : q.y ≡ on_grid g of.y

module _ (g : Grid) where
  -- ---- a place is on the grid
  data Gridded : Result Placed S.Stopped → Type 0 where
    gridded : {p : Placed} → Brought g p.place.xy → Gridded (Ok p)
    no_place : {e : S.Stopped} → Gridded (Err e)

  placed_gridded : (s : Float) (o d : Option Point) → Gridded (placed g s o d)
  placed_gridded s (Some o) (Some d) = gridded (record { of = o; x = refl; y = refl })
  placed_gridded s (Some o) None = no_place
  placed_gridded s None d = no_place

  unless_gridded : (t : Bool) {p : Result Placed S.Stopped} → Gridded p → Gridded (unless_past t p)
  unless_gridded true h = no_place
  unless_gridded false h = h

  place_gridded : (samples : List (List Float)) (s : Float) → Gridded (place_at samples g s)
  unfolding place_at
  place_gridded samples s = unless_gridded (leb (length samples) (to_unsigned 64 s)) (placed_gridded s (xy_at samples s) (dir_at samples s))

  -- ---- the breaks so far: at least so many, at most as many as there is room for
  record Made (room least : ℕ) (row : Row) : Type 0 where
    some : least ≤ length row
    few : length row ≤ room
    on : (i : ℕ) → i < length row → Brought g (break_at row i).xy

  data Finds (room least : ℕ) : Finding → Type 0 where
    holds : {row : Row} {d : Float} → Made room least row → Finds room least (so row d)
    is_stopped : {e : S.Stopped} → Finds room least (stopped e)

  module _ {room least : ℕ} {row : Row} (m : Made room least row) (b : Break) (f : Brought g b.xy) where
    pushed_on : (i : ℕ) → i < length (row ++ (packed_of b ∷ [])) → Brought g (break_at (row ++ (packed_of b ∷ [])) i).xy
    pushed_on i h = by (dec_lt i (length row))
      where
        by : Dec (i < length row) → Brought g (break_at (row ++ (packed_of b ∷ [])) i).xy
        by (yes low) = rw (get_or-append row (packed_of b ∷ []) [] i low) (m.on i low)
        by (no high) =
            let end : i ≡ length row = omega (arith, length-append row (packed_of b ∷ [])) in
            rw (end, get_or-append_seam row (packed_of b) [] []) f

    pushed : length row < room → Made room (least + 1) (row ++ (packed_of b ∷ []))
    pushed less = record {
      some = omega (arith, m.some, length-append row (packed_of b ∷ []));
      few = omega (arith, length-append row (packed_of b ∷ []));
      on = pushed_on;
    }

    pushes : (t : Bool) (dist : Float) → leb room (length row) ≡ t → Finds room (least + 1) (pushed_if t row b dist)
    pushes true dist e = is_stopped
    pushes false dist e = holds (pushed (leb-false room (length row) e))

    opens_one : (dist : Float) → Finds room (least + 1) (opened room row b dist)
    unfolding opened
    opens_one dist = pushes (leb room (length row)) dist refl

    set_on : (i : ℕ) → i < length (set row (length row - 1) (packed_of b)) → Brought g (break_at (set row (length row - 1) (packed_of b)) i).xy
    set_on i h = by (ℕ_discrete i (length row - 1))
      where
        inside : i < length row
        inside = omega (arith, length-set row (length row - 1) (packed_of b))

        by : Dec (i ≡ length row - 1) → Brought g (break_at (set row (length row - 1) (packed_of b)) i).xy
        by (yes e) =
            let low : length row - 1 < length row = omega (arith, inside) in
            rw (e, get_or-set_same row (length row - 1) (packed_of b) [] low) f
        by (no e) = rw (get_or-set_other row (length row - 1) i (packed_of b) [] e) (m.on i inside)

    changed : Made room least (set row (length row - 1) (packed_of b))
    changed = record {
      some = omega (arith, m.some, length-set row (length row - 1) (packed_of b));
      few = omega (arith, m.few, length-set row (length row - 1) (packed_of b));
      on = set_on;
    }

    replaces : (t : Bool) (d : Float) → Finds room least (replaced_if t row d b)
    replaces true d = holds changed
    replaces false d = holds m

  fewer : {room least : ℕ} {f : Finding} → Finds room (least + 1) f → Finds room least f
  fewer (holds {row} m) = holds {row = row} (record { some = omega (arith, m.some); few = m.few; on = m.on })
  fewer is_stopped = is_stopped

  module _ (room : ℕ) where
    joins_if : (t : Bool) {least : ℕ} {row : Row} (d : Float) (b : Break) (dist : Float) → Made room least row → Brought g b.xy →
        Finds room least (joined_if t room row d b dist)
    joins_if true d b dist m f = fewer (opens_one m b f dist)
    joins_if false d b dist m f = replaces m b f (lt dist d) d

    joins : {least : ℕ} {row : Row} (d : Float) (b : Break) (dist : Float) → Made room least row → Brought g b.xy →
        Finds room least (join_of room row d b dist)
    unfolding join_of
    joins {row = row} d b dist m f = joins_if (opens row b.xy) d b dist m f

    steps : {least : ℕ} {f : Finding} {p : Result Placed S.Stopped} → Finds room least f → Gridded p → Finds room least (stepped room f p)
    steps (holds {d = d} m) (gridded {p} g) = joins d p.place p.dist m g
    steps (holds m) no_place = is_stopped
    steps is_stopped g = is_stopped

    -- the first place opens a break
    nothing_made : Made room 0 []
    nothing_made = record { some = omega arith; few = omega arith; on = λ i h. absurd (omega arith) }

    first_joins : (b : Break) (dist : Float) → Brought g b.xy → Finds room 1 (join_of room [] nought b dist)
    unfolding join_of opens
    first_joins b dist f = opens_one nothing_made b f dist

    first_steps : {p : Result Placed S.Stopped} → Gridded p → Finds room 1 (stepped room (so [] nought) p)
    first_steps (gridded {p} f) = first_joins p.place p.dist f
    first_steps no_place = is_stopped

    module _ (place : ℕ → Result Placed S.Stopped) (all : (i : ℕ) → Gridded (place i)) where
      walks : (k : ℕ) {least : ℕ} (i : ℕ) {f : Finding} → Finds room least f → Finds room least (walk k room place i f)
      unfolding walk
      walks zero i h = h
      walks (suc k) i h = walks k (i + 1) (steps h (all i))

      walks_all : (k : ℕ) → Finds room 1 (walk (suc k) room place 0 (so [] nought))
      unfolding walk
      walks_all k = walks k 1 (first_steps (all 0))

  -- ---- the whole
  data Results (room : ℕ) : RunBreaks → Type 0 where
    found_all : {row : Row} → Made room 1 row → Results room (breaks row)
    is_refused_lem : {n : Refusal} → Results room (refused n)
    is_unchanged : Results room unchanged

  results_stopped : {room : ℕ} (e : S.Stopped) → Results room (stopped_as e)
  results_stopped Stopped.Full = is_refused_lem
  results_stopped Stopped.Missing = is_refused_lem
  results_stopped Stopped.Past = is_unchanged

  results : {room : ℕ} {f : Finding} → Finds room 1 f → Results room (run_breaks_of f)
  results (holds m) = found_all m
  results (is_stopped {e}) = results_stopped e

grid_fit : (g : Grid) {q : Float} (x : Float) → q ≡ on_grid g x → T (fits binary64 q)
grid_fit g x e = rw e (mul-fits binary64 g.step _)

module _ (room : ℕ) (samples : List (List Float)) (g : Grid) (len : Float) where
  all_results : Results g room (breaks_of room samples g len)
  unfolding breaks_of
  all_results = results g (walks_all g room (place_of samples g len) (λ i. place_gridded g samples _) (places_of len))

  module _ (row : Row) (e : breaks_of room samples g len ≡ breaks row) where
    made : Made g room 1 row
    made = by (subst (Results g room) e all_results)
      where
        by : Results g room (breaks row) → Made g room 1 row
        by (found_all m) = m

    pub found_some : 0 < length row
    found_some = made.some

    pub found_few : length row ≤ room
    found_few = made.few

    pub found_on : (i : ℕ) → i < length row → Brought g (break_at row i).xy
    found_on = made.on

    pub found_fit : (i : ℕ) → i < length row → T (fits binary64 (break_at row i).xy.x) × T (fits binary64 (break_at row i).xy.y)
    found_fit i h = let b = found_on i h in (grid_fit g b.of.x b.x, grid_fit g b.of.y b.y)

-- ---- more room

-- two searches, the second with more room: the first is full, or they are one
data Alike : Finding → Finding → Type 0 where
  was_full : {f : Finding} → Alike (stopped Stopped.Full) f
  same : {f : Finding} → Alike f f

module _ (room more : ℕ) (h : room ≤ more) where
  opened_alike : (t : Bool) (row : Row) (b : Break) (dist : Float) → leb room (length row) ≡ t → Alike (pushed_if t row b dist) (opened more row b dist)
  unfolding opened
  opened_alike true row b dist e = was_full
  opened_alike false row b dist e =
      let less : length row < room = leb-false room (length row) e in
      rw (lt-leb more (length row) (omega arith)) same

  joined_alike : (t : Bool) (row : Row) (d : Float) (b : Break) (dist : Float) → Alike (joined_if t room row d b dist) (joined_if t more row d b dist)
  unfolding opened
  joined_alike true row d b dist = opened_alike (leb room (length row)) row b dist refl
  joined_alike false row d b dist = same

  stepped_alike : (p : Result Placed S.Stopped) {f f' : Finding} → Alike f f' → Alike (stepped room f p) (stepped more f' p)
  unfolding join_of
  stepped_alike p was_full = was_full
  stepped_alike (Ok p) (same {f = so row d}) = joined_alike (opens row p.place.xy) row d p.place p.dist
  stepped_alike (Err e) (same {f = so row d}) = same
  stepped_alike p (same {f = stopped e}) = same

  walk_alike : (k : ℕ) (place : ℕ → Result Placed S.Stopped) (i : ℕ) {f f' : Finding} → Alike f f' → Alike (walk k room place i f) (walk k more place i f')
  unfolding walk
  walk_alike zero place i a = a
  walk_alike (suc k) place i a = walk_alike k place (i + 1) (stepped_alike (place i) a)

  result_same : {f f' : Finding} → Alike f f' → (run_breaks_of f ≡ refused TooManyBreaks → ⊥) → run_breaks_of f' ≡ run_breaks_of f
  result_same was_full short = absurd (short refl)
  result_same same short = refl

  -- the breaks of a run
  pub breaks_same : (samples : List (List Float)) (g : Grid) (len : Float) → (breaks_of room samples g len ≡ refused TooManyBreaks → ⊥) →
      breaks_of more samples g len ≡ breaks_of room samples g len
  unfolding breaks_of
  breaks_same samples g len short = result_same (walk_alike (suc (places_of len)) (place_of samples g len) 0 {f = so [] nought} same) short
