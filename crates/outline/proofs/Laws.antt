-- One turn of each loop, as the code takes it. Assumes nothing.
use Rattle.std.proofs.Common.{ℕ, suc, ◌+◌, ◌-◌, ◌≤◌, ◌<◌, Bool, true, false, cond, List, length, drop, ◌≡◌, refl, sym, add-one, arith, lt-ltb, le-ltb, pos, count_by, drop-cons, drop_of_length-le}
use lib.Ieee.{binary64, of_bits, of_int}
use Rattle.std.proofs.lemmas.List.Recursion.{is_count_by}
use Rattle.refusals.specs.Refusals.{is_on}
use Rattle.outline.specs.Segments.{on_at, count_of, one_more, next_of}

-- 0 as a float, past the end of a row
pub zero_is : of_bits binary64 0 ≡ of_int binary64 (pos 0)
unfolding of_int of_bits
zero_is = refl

-- what is counted from place i on
module _ (fs : List ℕ) (i : ℕ) where
  pub count_on : i < length fs → on_at fs i ≡ true → count_of (drop i fs) ≡ suc (count_of (drop (i + 1) fs))
  unfolding count_of
  count_on h e = rw (add-one, drop-cons fs i 0, e)

  pub count_off : i < length fs → on_at fs i ≡ false → count_of (drop i fs) ≡ count_of (drop (i + 1) fs)
  unfolding count_of
  count_off h e = rw (add-one, drop-cons fs i 0, e)

  pub count_end : length fs ≤ i → count_of (drop i fs) ≡ 0
  unfolding count_of
  count_end h = rw (drop_of_length-le fs h)

-- that many of them pass the test
one_more_is : (b : Bool) (n : ℕ) → one_more b n ≡ cond b (1 + n) n
one_more_is true n = omega arith
one_more_is false n = refl

pub count_is : (fs : List ℕ) → count_by is_on fs ≡ count_of fs
unfolding count_of
count_is fs = sym (is_count_by count_of is_on refl (λ f rest. one_more_is (is_on f) (count_of rest)) fs)

-- the next place, as `next` tests it
module _ (i n : ℕ) where
  pub next_none : n ≡ 0 → 0 ≡ next_of i n
  next_none h = rw (le-ltb (i + 1) n (omega arith))

  pub next_more : i < n - 1 → i + 1 ≡ next_of i n
  next_more h = rw (lt-ltb (i + 1) n (omega arith))

  pub next_first : n - 1 ≤ i → 0 ≡ next_of i n
  next_first h = rw (le-ltb (i + 1) n (omega arith))
