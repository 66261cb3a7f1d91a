-- One place more, by what the code has found out of the row, and the walk over the places. Assumes nothing.
use Prim.Native.Nat.{ℕ, zero, suc, ◌+◌, ◌-◌, ◌^◌, ◌≤◌, ◌<◌, min}
use native.Mathlib.Numerals.{add-one}
use native.Mathlib.Omega.{arith}
use mathlib.Core.Bool.{true, false, not, true≢false}
use mathlib.Core.List.{List, []}
use mathlib.Core.Path.{◌≡◌, refl, sym, ◌∙◌}
use borrow.Author.Tests.{le-leb, lt-leb, eq-eqb, ne_eqb}
use lib.ListN.{length, take, set}
use lib.Seq.{length-take-le, take-suc-set, take-set-lt, get_or-take}
use lib.Ieee.{Float, nan, inf, fin, to_unsigned, lt}
use Rattle.geometry.specs.Geometry.{is_close}
use Rattle.geometry.specs.declared.Point.{Point}
use Rattle.geometry.specs.declared.Break.{Break}
use Rattle.lookup.specs.Lookup.{xy_at, dir_at}
use Rattle.float.specs.Numbers.{nought}
use Rattle.breaks.specs.Breaks.{Row, packed_of, break_at, places_of, length_at, placed, place_at, place_of, Finding, so, stopped, opened, opens, join_of, stepped, walk, breaks, stopped_as, breaks_of}
use Rattle.breaks.specs.declared.Grid.{Grid}
use Rattle.breaks.specs.declared.Placed.{Placed}
use Rattle.breaks.specs.declared.Stopped as S
use Rattle.breaks.specs.declared.Stopped.TheVariants as Stopped
use Rattle.std.specs.Prelude.{Option, Some, None, Result, Err, ok_or}

-- ---- a cast of 31 bits, from one of 64
least_cut : (c : ℕ) → min (min c (2 ^ 64 - 1)) (2 ^ 31 - 1) ≡ min c (2 ^ 31 - 1)
least_cut c = omega arith

pub cut_31 : (x : Float) → min (to_unsigned 64 x) (2 ^ 31 - 1) ≡ to_unsigned 31 x
unfolding to_unsigned
cut_31 nan = refl
cut_31 (inf true) = refl
cut_31 (inf false) = refl
cut_31 (fin true m e) = refl
cut_31 (fin false m e) = least_cut _

cap_le : (c n : ℕ) → min c n ≤ n
cap_le c n = omega arith

pub capped : (x : Float) → to_unsigned 31 x ≤ 2 ^ 31 - 1
unfolding to_unsigned
capped nan = omega arith
capped (inf true) = omega arith
capped (inf false) = omega arith
capped (fin true m e) = omega arith
capped (fin false m e) = cap_le _ (2 ^ 31 - 1)

-- ---- a place, from what was looked up

-- what is not found stops the work
pub missing : {A : Type 0} {o : Option A} {e : S.Stopped} → ◌≡◌ {A = Result A S.Stopped} (Err e) (ok_or o Stopped.Missing) → o ≡ None → e ≡ Stopped.Missing
missing {A} {o} {e} is none =
    let same : ◌≡◌ {A = Result A S.Stopped} (Err e) (Err Stopped.Missing) = is ∙ rw none refl in
    cc

module _ (samples : List (List Float)) (g : Grid) (s : Float) where
  pub place_past : length samples ≤ to_unsigned 64 s → place_at samples g s ≡ Err Stopped.Past
  unfolding place_at
  place_past h = rw (le-leb (length samples) (to_unsigned 64 s) h)

  module _ (h : to_unsigned 64 s < length samples) where
    pub place_inside : place_at samples g s ≡ placed g s (xy_at samples s) (dir_at samples s)
    unfolding place_at
    place_inside = rw (lt-leb (length samples) (to_unsigned 64 s) h)

module _ (samples : List (List Float)) (g : Grid) (s : Float) (h : to_unsigned 64 s < length samples) where
  pub no_place : xy_at samples s ≡ None → place_at samples g s ≡ Err Stopped.Missing
  no_place p = place_inside samples g s h ∙ rw p

  pub no_direction : {o : Point} → xy_at samples s ≡ Some o → dir_at samples s ≡ None → place_at samples g s ≡ Err Stopped.Missing
  no_direction p d = place_inside samples g s h ∙ rw (p, d)

  pub both_there : {o dir : Point} → xy_at samples s ≡ Some o → dir_at samples s ≡ Some dir → place_at samples g s ≡ placed g s (Some o) (Some dir)
  both_there p d = place_inside samples g s h ∙ rw (p, d)

-- ---- the first n breaks of a row
module _ (row : Row) (n : ℕ) (inside : n ≤ length row) where
  used : length (take n row) ≡ n
  used = length-take-le n row inside

  pub opens_first : (p : Point) → n ≡ 0 → opens (take n row) p ≡ true
  unfolding opens
  opens_first p e = rw (used, eq-eqb n 0 e)

  pub opens_later : (p : Point) → (n ≡ 0 → ⊥) → opens (take n row) p ≡ not (is_close p (break_at row (n - 1)).xy)
  unfolding opens
  opens_later p some =
      let last : n - 1 < n = omega arith in
      rw (used, ne_eqb n 0 some, get_or-take n row (n - 1) [] last)

  -- a place that opens none is close to a break that is there
  pub not_first : (p : Point) → opens (take n row) p ≡ false → n ≡ 0 → ⊥
  not_first p close e = true≢false (sym (opens_first p e) ∙ close)

  pub no_room : (b : Break) (dist : Float) → length row ≤ n → opened (length row) (take n row) b dist ≡ stopped Stopped.Full
  unfolding opened
  no_room b dist h = rw (used, le-leb (length row) n h)

  pub has_room : (b : Break) (dist : Float) → n < length row → opened (length row) (take n row) b dist ≡ so (take (n + 1) (set row n (packed_of b))) dist
  unfolding opened
  has_room b dist h = rw (used, lt-leb (length row) n h, add-one, take-suc-set row n (packed_of b) h)

  module _ (d : Float) (b : Break) (dist : Float) where
    pub join_opens : opens (take n row) b.xy ≡ true → join_of (length row) (take n row) d b dist ≡ opened (length row) (take n row) b dist
    unfolding join_of
    join_opens e = rw e

    module _ (close : opens (take n row) b.xy ≡ false) where
      pub join_replaces : lt dist d ≡ true → join_of (length row) (take n row) d b dist ≡ so (take n (set row (n - 1) (packed_of b))) d
      unfolding join_of
      join_replaces e =
          let z = not_first b.xy close in
          let low : n - 1 < n = omega arith in
          rw (close, e, used, take-set-lt n row (n - 1) (packed_of b) low)

      pub join_keeps : lt dist d ≡ false → join_of (length row) (take n row) d b dist ≡ so (take n row) d
      unfolding join_of
      join_keeps e = rw (close, e)

-- ---- the walk over the places
pub stays : (k room : ℕ) (place : ℕ → Result Placed S.Stopped) (i : ℕ) (e : S.Stopped) → walk k room place i (stopped e) ≡ stopped e
unfolding walk
stays zero room place i e = refl
stays (suc k) room place i e = stays k room place (i + 1) e

pub goes : (n room : ℕ) (place : ℕ → Result Placed S.Stopped) (i : ℕ) (f : Finding) → i ≤ n → walk (suc n - i) room place i f ≡ walk (suc n - (i + 1)) room place (i + 1) (stepped room f (place i))
unfolding walk
goes n room place i f h =
    let one_less : suc n - i ≡ suc (suc n - (i + 1)) = omega arith in
    rw one_less

pub done : (n room : ℕ) (place : ℕ → Result Placed S.Stopped) (i : ℕ) (f : Finding) → n < i → walk (suc n - i) room place i f ≡ f
unfolding walk
done n room place i f h =
    let none : suc n - i ≡ 0 = omega arith in
    rw none

-- ---- while places are sought: i of them are done
pub record Seeking (samples : List (List Float)) (len : Float) (g : Grid) (n : ℕ) (row₀ row : Row) (count : ℕ) (dist : Float) (i : ℕ) : Type 0 where
  pub last_place : n ≡ places_of len
  pub long : length row ≡ length row₀
  pub inside : count ≤ length row₀
  pub rows : walk (suc n) (length row₀) (place_of samples g len) 0 (so [] nought)
      ≡ walk (suc n - i) (length row₀) (place_of samples g len) i (so (take (count) row) dist)

pub seek : (samples : List (List Float)) (len : Float) (g : Grid) (n : ℕ) (row : Row) (count : ℕ) (dist : Float) → n ≡ places_of len → count ≡ 0 → dist ≡ nought → Seeking samples len g n row row count dist 0
seek samples len g n row count dist e none fresh =
    let all : suc n - 0 ≡ suc n = omega arith in
    record { last_place = e; long = refl; inside = omega arith; rows = rw (all, none, fresh) refl }

module _ {samples : List (List Float)} {len : Float} {g : Grid} {n : ℕ} {row₀ row : Row} {count : ℕ} {dist : Float} {i : ℕ} (s : Seeking samples len g n row₀ row count dist i) where
  next : {pl : Result Placed S.Stopped} → i ≤ n → pl ≡ place_at samples g (length_at len n i) →
      walk (suc n) (length row₀) (place_of samples g len) 0 (so [] nought)
      ≡ walk (suc n - (i + 1)) (length row₀) (place_of samples g len) (i + 1) (stepped (length row) (so (take (count) row) dist) pl)
  next h is = s.rows ∙ goes n (length row₀) (place_of samples g len) i _ h ∙ rw (is, s.long, s.last_place) refl

  pub seeks : {pl : Result Placed S.Stopped} {row' : Row} {more : ℕ} {next-dist : Float} → i ≤ n → pl ≡ place_at samples g (length_at len n i) →
      stepped (length row) (so (take (count) row) dist) pl ≡ so (take more row') next-dist →
      length row' ≡ length row → more ≤ length row → Seeking samples len g n row₀ row' more next-dist (i + 1)
  seeks h is steps same few = record {
    last_place = s.last_place;
    long = same ∙ s.long;
    inside = omega (arith, s.long);
    rows = next h is ∙ rw steps refl;
  }

  -- a place that ends the search
  pub seeks_no_more : {pl : Result Placed S.Stopped} {e : S.Stopped} → i ≤ n → pl ≡ place_at samples g (length_at len n i) →
      stepped (length row) (so (take (count) row) dist) pl ≡ stopped e → breaks_of (length row₀) samples g len ≡ stopped_as e
  unfolding breaks_of
  seeks_no_more {e = e} h is steps = rw (← s.last_place, next h is, steps, stays (suc n - (i + 1)) (length row₀) (place_of samples g len) (i + 1) e) refl

  pub sought : n < i → breaks_of (length row₀) samples g len ≡ breaks (take (count) row)
  unfolding breaks_of
  sought h = rw (← s.last_place, s.rows, done n (length row₀) (place_of samples g len) i (so (take (count) row) dist) h) refl
