-- Where there are two samples more than a whole number that bounds the length, each place that is looked at lies before the last stored sample: breaks are
-- found, or there are more than there is room for. Assumes nothing.
use Prim.Native.Nat.{ℕ, zero, suc, ◌+◌, ◌*◌, ◌^◌, ◌≤◌, ◌<◌}
use mathlib.Core.Bool.{Bool, true, false}
use mathlib.Core.List.{List, []}
use mathlib.Core.Path.{◌≡◌, refl, ap, ◌∙◌, subst}
use native.Mathlib.Nat.{mul-le-mul}
use native.Mathlib.Omega.{arith}
use borrow.Author.Tests.{lt-leb}
use lib.Dec.{leb, lit≤}
use lib.IntN.{pos}
use lib.ListN.{length, get_or}
use lib.Ieee.{Float, nan, fin, binary64, mul, lt, of_int, round, to_unsigned}
use lib.Ieee.Exact.{HasValue}
use lib.Ieee.Back.{round_whole}
use lib.Ieee.Casts.{to_unsigned-lt}
use Rattle.float.specs.Float.{fract_of}
use Rattle.float.specs.Numbers.{nought}
use Rattle.geometry.specs.declared.Break.{Break}
use Rattle.lookup.specs.Lookup.{looked_up, point_between}
use Rattle.breaks.specs.declared.Grid.{Grid}
use Rattle.breaks.specs.declared.Placed.{Placed}
use Rattle.breaks.specs.declared.Stopped as S
use Rattle.breaks.specs.declared.Stopped.TheVariants as Stopped
use Rattle.std.specs.Prelude.{Some, Result, Ok}
use Rattle.refusals.specs.declared.refusal.Refusal.TheVariants.{TooManyBreaks}
use Rattle.breaks.specs.Breaks.{Row, place_at, place_of, places_of, length_at, Finding, so, stopped, pushed_if, opened, replaced_if, joined_if, opens, join_of, stepped, walk, RunBreaks, breaks, refused, run_breaks_of, breaks_of}
use Rattle.survey.proofs.Bounded.{Within, round_within, mul_within, div_within, none_over_none, place_within}

-- ---- one place: a length of at most k is looked up at a place of at most k

pub int_value : (n : ℕ) → n ≤ 2 ^ 53 → HasValue (of_int binary64 (pos n)) false n 1
unfolding of_int
int_value n h = round_whole binary64 false n h

pub int_within : (i n : ℕ) → i ≤ n → n < 2 ^ 31 → Within n (of_int binary64 (pos i))
unfolding of_int
int_within i n h few = round_within false i 1 n (lit≤ tt) (omega arith) (omega arith)

int_none : of_int binary64 (pos 0) ≡ fin false 0 (pos 0)
unfolding of_int round
int_none = refl

nan_place : to_unsigned 64 nan ≡ 0
unfolding to_unsigned
nan_place = refl

module _ (len : Float) (k : ℕ) (small : k ≤ 2 ^ 22) (w : Within k len) where
  -- where there are no places the length is 0 / 0
  no_places : (i : ℕ) → i ≤ 0 → length_at len 0 i ≡ nan
  no_places i h =
      let none : k * 0 ≡ 0 = omega arith in
      rw int_none (none_over_none (subst (λ (a : ℕ). Within a (mul binary64 len (of_int binary64 (pos i)))) none (mul_within w (int_within i 0 h (lit≤ tt)) (omega arith))))

  looked : (n i : ℕ) → i ≤ n → n < 2 ^ 31 → to_unsigned 64 (length_at len n i) ≤ k
  looked zero i h few = omega (arith, ap (to_unsigned 64) (no_places i h) ∙ nan_place)
  looked (suc n) i h few =
      let many : suc n ≤ 2 ^ 31 = omega arith in
      let most : k * suc n ≤ 2 ^ 22 * 2 ^ 31 = mul-le-mul small many in
      place_within 64
      (div_within (of_int binary64 (pos (suc n))) (mul_within w (int_within i (suc n) h few) (omega arith)) (int_value (suc n) (omega arith)) (omega arith) (omega arith))

-- ---- and is found there, before the last sample

pub data IsAt : Result Placed S.Stopped → Type 0 where
  is_at : (p : Placed) → IsAt (Ok p)

looks : (j : ℕ) (samples : List (List Float)) (s : Float) → to_unsigned 64 s + 1 < length samples →
    looked_up j samples s ≡ Some (point_between j (get_or samples (to_unsigned 64 s) []) (get_or samples (to_unsigned 64 s + 1) []) (fract_of s))
unfolding looked_up
looks j samples s h =
    let less : to_unsigned 64 s < length samples = omega arith in
    rw (lt-leb (length samples) (to_unsigned 64 s) less, lt-leb (length samples) (to_unsigned 64 s + 1) h)

places : (samples : List (List Float)) (g : Grid) (s : Float) → to_unsigned 64 s + 1 < length samples → IsAt (place_at samples g s)
unfolding place_at
places samples g s h =
    let less : to_unsigned 64 s < length samples = omega arith in
    rw (lt-leb (length samples) (to_unsigned 64 s) less, looks 0 samples s h, looks 2 samples s h) (is_at _)

-- ---- the breaks so far: some, or more than there is room for

data Sound : Finding → Type 0 where
  is_so : (row : Row) (d : Float) → Sound (so row d)
  is_full : Sound (stopped Stopped.Full)

pushed_sound : (t : Bool) (row : Row) (b : Break) (dist : Float) → Sound (pushed_if t row b dist)
pushed_sound true row b dist = is_full
pushed_sound false row b dist = is_so _ _

replaced_sound : (t : Bool) (row : Row) (d : Float) (b : Break) → Sound (replaced_if t row d b)
replaced_sound true row d b = is_so _ _
replaced_sound false row d b = is_so _ _

joined_sound : (t : Bool) (room : ℕ) (row : Row) (d : Float) (b : Break) (dist : Float) → Sound (joined_if t room row d b dist)
unfolding opened
joined_sound true room row d b dist = pushed_sound (leb room (length row)) row b dist
joined_sound false room row d b dist = replaced_sound (lt dist d) row d b

step_sound : (room : ℕ) {f : Finding} {p : Result Placed S.Stopped} → Sound f → IsAt p → Sound (stepped room f p)
unfolding join_of
step_sound room (is_so row d) (is_at p) = joined_sound (opens row p.place.xy) room row d p.place p.dist
step_sound room is_full (is_at p) = is_full

-- k places from place i on, of those up to n
walk_sound : (k room n : ℕ) (place : ℕ → Result Placed S.Stopped) (i : ℕ) {f : Finding} → ((j : ℕ) → j ≤ n → IsAt (place j)) → i + k ≤ n + 1 → Sound f → Sound (walk k room place i f)
unfolding walk
walk_sound zero room n place i all h s = s
walk_sound (suc k) room n place i all h s = walk_sound k room n place (i + 1) all (omega arith) (step_sound room s (all i (omega arith)))

-- breaks, or refusal 7
pub data Only : RunBreaks → Type 0 where
  all : (row : Row) → Only (breaks row)
  short : Only (refused TooManyBreaks)

result_only : {f : Finding} → Sound f → Only (run_breaks_of f)
result_only (is_so row d) = all row
result_only is_full = short

-- of a length of at most k, and more than k + 1 samples
module _ (samples : List (List Float)) (g : Grid) (len : Float) (k : ℕ) (small : k ≤ 2 ^ 22) (w : Within k len) (more : k + 1 < length samples) where
  pub all_places : (i : ℕ) → i ≤ places_of len → IsAt (place_of samples g len i)
  all_places i h = places samples g (length_at len (places_of len) i) (omega (arith, looked len k small w (places_of len) i h (to_unsigned-lt 31 _)))

  pub breaks_only : (room : ℕ) → Only (breaks_of room samples g len)
  unfolding breaks_of
  breaks_only room = result_only (walk_sound (suc (places_of len)) room (places_of len) (place_of samples g len) 0 all_places (omega arith) (is_so [] nought))
