-- Laws for callers: a break that carries its segment is the same break; what it carries is the segment that holds its length; and which one that is.
-- Assumes nothing.
use Rattle.std.specs.Prelude.{ℕ, zero, suc, ◌+◌, ◌-◌, ◌^◌, ◌≤◌, ◌<◌, Bool, true, false, List, [], ◌∷◌, map, ◌≡◌, refl, T, ltb, ℤ, pos, length, get_or, Float}
use Rattle.std.proofs.Math.Decide.{dec_lt}
use Rattle.std.proofs.Common.{arith, true≢false, sym, ap, ◌∙◌, le→leb}
use Rattle.std.proofs.lemmas.List.{length-map}
use Rattle.std.specs.Float.{nan, binary64}
use Rattle.std.specs.Float.Ieee.{is_nan, le, in_float}
use Rattle.std.specs.Float.Ieee.Back.{unsigned_back}
use Rattle.outline.specs.Segments.{count_of, end_of}
use Rattle.geometry.specs.declared.Quad.{Quad}
use Rattle.samples.specs.Samples.{length_after, quads_from, quads_of}
use Rattle.breaks.specs.Breaks.{Row, break_at}
use Rattle.segments.specs.Segments.{ends_from, ends_of, here_if, first_holding, place_in, round_if, number_of, segment_of, named_of, carried, segment_at}

-- ---- which segment holds a length

-- k is the first of these ends that is at least s; or there is none, and k is after them all
pub record First (ends : List Float) (s : Float) (k : ℕ) : Type 0 where
  pub few : k ≤ length ends
  pub holds : k < length ends → le s (get_or ends k nan) ≡ true
  pub none_before : (j : ℕ) → j < k → le s (get_or ends j nan) ≡ false

first_if : (t : Bool) {end : Float} {ends : List Float} {s : Float} {k : ℕ} → le s end ≡ t → First ends s k → First (end ∷ ends) s (here_if t (suc k))
first_if true e f = record { few = omega arith; holds = λ h. e; none_before = λ j h. absurd (omega arith) }
first_if false {end} {ends} {s} {k} e f = record { few = omega (arith, f.few); holds = λ h. f.holds (omega arith); none_before = before }
  where
    before : (j : ℕ) → j < suc k → le s (get_or (end ∷ ends) j nan) ≡ false
    before zero h = e
    before (suc j) h = f.none_before j (omega arith)

pub first_holding_lem : (ends : List Float) (s : Float) → First ends s (first_holding ends s)
unfolding first_holding
first_holding_lem [] s = record { few = omega arith; holds = λ h. absurd (omega arith); none_before = λ j h. absurd (omega arith) }
first_holding_lem (end ∷ ends) s = first_if (le s end) refl (first_holding_lem ends s)

-- a length that is a number
pub number_held : (ends : List Float) (s : Float) → is_nan s ≡ false → First ends s (place_in ends s)
number_held ends s e = rw e (first_holding_lem ends s)

-- a NaN names the run's first segment
pub nan_held : (ends : List Float) (s : Float) → is_nan s ≡ true → place_in ends s ≡ 0
nan_held ends s e = rw e refl

-- past every end but the last, the last
pub past_held : (ends : List Float) (s : Float) → is_nan s ≡ false → ((j : ℕ) → j < length ends → le s (get_or ends j nan) ≡ false) →
    place_in ends s ≡ length ends
past_held ends s e past = by (number_held ends s e)
  where
    by : First ends s (place_in ends s) → place_in ends s ≡ length ends
    by f = at_end_lem (place_in ends s) f.few (λ h. true≢false (sym (f.holds h) ∙ past (place_in ends s) h))
      where
        at_end_lem : (k : ℕ) → k ≤ length ends → (k < length ends → ⊥) → k ≡ length ends
        at_end_lem k h less = by_cases (dec_lt k (length ends))
          where
            by_cases : Dec (k < length ends) → k ≡ length ends
            by_cases (yes low) = absurd (less low)
            by_cases (no high) = omega arith

pub held_few : (ends : List Float) (s : Float) → place_in ends s ≤ length ends
held_few ends s = by (is_nan s)
  where
    by : (t : Bool) → here_if t (first_holding ends s) ≤ length ends
    by true = omega arith
    by false = (first_holding_lem ends s).few

-- ---- its number

pub number_few : (total n : ℕ) → number_of total n ≤ n
number_few total n = by (ltb n total)
  where
    by : (t : Bool) → round_if t total n ≤ n
    by true = omega arith
    by false = omega arith

-- ---- a break that carries it

quads_many : (xs ys : List ℤ) (fs : List ℕ) (a n : ℕ) → length (quads_from xs ys fs a n) ≡ n
unfolding quads_from
quads_many xs ys fs a zero = refl
quads_many xs ys fs a (suc n) = ap suc (quads_many xs ys fs (end_of fs a) n)

ends_many : (qs : List Quad) (y : Float) → length (ends_from qs y) ≡ length qs
unfolding ends_from
ends_many [] y = refl
ends_many (q ∷ qs) y = ap suc (ends_many qs (length_after q y))

pub ends_few : (xs ys : List ℤ) (fs : List ℕ) (first count : ℕ) → length (ends_of xs ys fs first count) ≡ count - 1
ends_few xs ys fs first count = ends_many (quads_of xs ys fs first (count - 1)) _ ∙ quads_many xs ys fs _ (count - 1)

pub get_d_mapped : {A B : Type 0} (f : A → B) (row : List A) (i : ℕ) (a : A) (b : B) → i < length row → get_or (map f row) i b ≡ f (get_or row i a)
get_d_mapped f [] i a b h = absurd (omega arith)
get_d_mapped f (x ∷ row) zero a b h = refl
get_d_mapped f (x ∷ row) (suc i) a b h = get_d_mapped f row i a b (omega arith)

-- a whole number of at most 53 bits is a double
pub exact : (n : ℕ) → n ≤ 2 ^ 53 → T (in_float binary64 (pos n))
unfolding in_float
exact n h = le→leb n (2 ^ 53) h

module _ (xs ys : List ℤ) (fs : List ℕ) (first count : ℕ) (row : Row) where
  abbrev ends : List Float
  ends = ends_of xs ys fs first count

  pub carried_many : length (carried xs ys fs first count row) ≡ length row
  carried_many = length-map row (named_of ends first (count_of fs))

  module _ (i : ℕ) (h : i < length row) where
    there : get_or (carried xs ys fs first count row) i [] ≡ named_of ends first (count_of fs) (get_or row i [])
    there = get_d_mapped (named_of ends first (count_of fs)) row i [] [] h

    -- its length, place and direction stay
    pub same_break : break_at (carried xs ys fs first count row) i ≡ break_at row i
    same_break = rw there refl

    small : first ≤ 2048 → count ≤ 2048 → segment_of ends first (count_of fs) (break_at row i).s ≤ 4096
    small f c =
        omega (arith, number_few (count_of fs) (first + place_in ends (break_at row i).s), held_few ends (break_at row i).s, ends_few xs ys fs first count)

    -- it carries the segment that holds its own length, also where it replaced another
    pub carries : first ≤ 2048 → count ≤ 2048 → segment_at (carried xs ys fs first count row) i ≡ segment_of ends first (count_of fs) (break_at row i).s
    carries f c =
        let n = segment_of ends first (count_of fs) (break_at row i).s in
        let low : n ≤ 4096 = small f c in
        rw there (unsigned_back binary64 31 n (exact n (omega (arith, low))) (omega (arith, low))).1
