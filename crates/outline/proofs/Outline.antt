-- The segments that are read are those that OpenType says a contour has: of a contour that is let through as many as are counted, segment k
-- is the k-th, and after the last comes the first. A theorem on the definitions, for a reader: no proof of a function uses it. Assumes nothing.
use Prim.Native.Nat.{ℕ, zero, suc, ◌+◌, ◌≤◌, ◌<◌}
use mathlib.Core.Bool.{Bool, true, false}
use mathlib.Core.List.{List, [], ◌∷◌}
use mathlib.Core.Path.{◌≡◌, refl, sym, ap, ◌∙◌}
use native.Mathlib.Nat.{le_of_suc-le-suc}
use native.Mathlib.Numerals.{add-one}
use native.Mathlib.Omega.{arith}
use lib.IntN.{ℤ, pos}
use lib.ListN.{length, get_or, drop, drop_of_length-le}
use lib.Seq.{drop-cons}
use Rattle.refusals.specs.Accepted.{Accepted, accepted, next_on}
use Rattle.outline.specs.declared.Seg.{Seg}
use Rattle.outline.specs.Segments.{on_at, count_of, next_of, end_of, place_after, line_from, quad_from, seg_from, seg_at}
use Rattle.outline.specs.OpenType.{Spot, spot, points, outline_from, outline}
use Rattle.outline.specs.Laws.{place_after_lem}
use Rattle.outline.specs.Statements.{SegmentsAreOpenTypes}
use Rattle.outline.proofs.Laws.{count_on, count_off, count_end, next_more, next_first}

-- m + 1 segments on from place a is m segments on from where its segment ends
place_first : (fs : List ℕ) (a m : ℕ) → place_after fs a (suc m) ≡ place_after fs (end_of fs a) m
unfolding place_after
place_first fs a m = let one : suc m ≡ 1 + m = omega arith in ap (place_after fs a) one ∙ place_after_lem fs a 1 m

module _ (xs ys : List ℤ) (fs : List ℕ) where
  -- m segments, the first from place a on, each from where the one before it ended
  unfoldable pub segments : ℕ → ℕ → List Seg
  segments a zero = []
  segments a (suc m) = seg_from xs ys fs a ∷ segments (end_of fs a) m

  segments_length : (a m : ℕ) → length (segments a m) ≡ m
  unfolding segments
  segments_length a zero = refl
  segments_length a (suc m) = ap suc (segments_length (end_of fs a) m)

  segments_at : (a m k : ℕ) (d : Seg) → k < m → get_or (segments a m) k d ≡ seg_from xs ys fs (place_after fs a k)
  unfolding segments place_after
  segments_at a zero k d h = absurd (omega arith)
  segments_at a (suc m) zero d h = refl
  segments_at a (suc m) (suc k) d h = segments_at (end_of fs a) m k d (le_of_suc-le-suc h) ∙ ap (seg_from xs ys fs) (sym (place_first fs a k))

  abbrev n : ℕ
  n = length fs

  next_in_lem : (i : ℕ) → suc i < n → next_of i n ≡ suc i
  next_in_lem i h = sym (next_more i n (omega arith)) ∙ add-one i

  next_round : (i : ℕ) → n ≤ suc i → next_of i n ≡ 0
  next_round i h = sym (next_first i n (omega arith))

  -- one segment, and those after it
  line_read : (a b m : ℕ) → next_of a n ≡ b → on_at fs b ≡ true → segments a (suc m) ≡ line_from xs ys a b ∷ segments b m
  unfolding segments seg_from end_of
  line_read a b m p o = rw (p, o)

  quad_read : (a b c m : ℕ) → next_of a n ≡ b → next_of b n ≡ c → on_at fs b ≡ false → segments a (suc m) ≡ quad_from xs ys a b c ∷ segments c m
  unfolding segments seg_from end_of
  quad_read a b c m p q o = rw (p, o, q)

  -- where it ends
  line_ends : (a b : ℕ) → next_of a n ≡ b → on_at fs b ≡ true → end_of fs a ≡ b
  unfolding end_of
  line_ends a b p o = rw (p, o)

  quad_ends : (a b c : ℕ) → next_of a n ≡ b → next_of b n ≡ c → on_at fs b ≡ false → end_of fs a ≡ c
  unfolding end_of
  quad_ends a b c p q o = rw (p, o, q)

  -- the on-curve points from place a on
  abbrev left : ℕ → ℕ
  left a = count_of (drop a fs)

  left_on : (a : ℕ) → a < n → on_at fs a ≡ true → left a ≡ suc (left (suc a))
  left_on a h o = count_on fs a h o ∙ ap (λ (i : ℕ). suc (left i)) (add-one a)

  left_off : (a : ℕ) → a < n → on_at fs a ≡ false → left a ≡ left (suc a)
  left_off a h o = count_off fs a h o ∙ ap left (add-one a)

  module _ (ok : Accepted xs ys fs) where
    abbrev x : ℕ → ℤ
    x i = get_or xs i (pos 0)

    abbrev y : ℕ → ℤ
    y i = get_or ys i (pos 0)

    -- the points from place i on
    abbrev rest : ℕ → List Spot
    rest i = points (drop i xs) (drop i ys) (drop i fs)

    rest_end : (i : ℕ) → n ≤ i → rest i ≡ []
    unfolding points
    rest_end i h = let hx : length xs ≤ i = omega (arith, ok.same_x) in rw (drop_of_length-le xs hx)

    rest_more : (i : ℕ) → i < n → rest i ≡ spot (on_at fs i) (x i) (y i) ∷ rest (suc i)
    unfolding points
    rest_more i h =
        let hx : i < length xs = omega (arith, ok.same_x) in
        let hy : i < length ys = omega (arith, ok.same_y) in
        rw (drop-cons xs i (pos 0), drop-cons ys i (pos 0), drop-cons fs i 0)

    -- the curve from place a on
    abbrev curve : ℕ → List Seg
    curve a = outline_from (x 0) (y 0) (x a) (y a) (rest (suc a))

    -- What holds of the starts of last segments, and of the start of a segment if of its end, holds of every start: by the next point and how many
    -- points there are after it, and by how many there are from place a on.
    module _ (P : ℕ → Type 0)
        (last_Line : (a : ℕ) → suc a ≡ n → on_at fs a ≡ true → P a)
        (last-quad : (a : ℕ) → suc (suc a) ≡ n → on_at fs a ≡ true → on_at fs (suc a) ≡ false → P a)
        (more-line : (a : ℕ) → suc a < n → on_at fs a ≡ true → on_at fs (suc a) ≡ true → P (suc a) → P a)
        (more-quad : (a : ℕ) → suc (suc a) < n → on_at fs a ≡ true → on_at fs (suc a) ≡ false → on_at fs (suc (suc a)) ≡ true → P (suc (suc a)) → P a) where
      more : (t : Bool) (l a : ℕ) → on_at fs a ≡ true → on_at fs (suc a) ≡ t → a + suc (suc l) ≡ n →
          (on_at fs (suc a) ≡ true → P (suc a)) → (0 < l → on_at fs (suc (suc a)) ≡ true → P (suc (suc a))) → P a
      more true l a o on e one two = more-line a (omega arith) o on (one on)
      more false zero a o off e one two = last-quad a (omega arith) o off
      more false (suc l) a o off e one two =
          let on = next_on fs (suc a) ok.apart (omega arith) off in
          more-quad a (omega arith) o off on (two (omega arith) on)

      walked : (l a : ℕ) → a + l ≡ n → 0 < l → on_at fs a ≡ true → P a
      walked zero a e some o = absurd (omega arith)
      walked (suc zero) a e some o = last_Line a (omega arith) o
      walked (suc (suc l)) a e some o =
          more (on_at fs (suc a)) l a o refl e (walked (suc l) (suc a) (omega arith) (omega arith)) (walked l (suc (suc a)) (omega arith))

      from_first : P 0
      from_first = walked n 0 (omega arith) ok.some ok.first

    -- the curve from a start on is the segments that are read there
    abbrev Traced : ℕ → Type 0
    Traced a = curve a ≡ segments a (left a)

    traced_line : (a : ℕ) → suc a ≡ n → on_at fs a ≡ true → Traced a
    unfolding outline_from segments
    traced_line a e o =
        let h : a < n = omega arith in
        let end : n ≤ suc a = omega arith in
        rw (rest_end (suc a) end, left_on a h o, count_end fs (suc a) end, line_read a 0 0 (next_round a end) ok.first)

    traced_quad : (a : ℕ) → suc (suc a) ≡ n → on_at fs a ≡ true → on_at fs (suc a) ≡ false → Traced a
    unfolding outline_from segments
    traced_quad a e o off =
        let h₀ : a < n = omega arith in
        let h₁ : suc a < n = omega arith in
        let end : n ≤ suc (suc a) = omega arith in
        rw (
          rest_more (suc a) h₁,
          off,
          rest_end (suc (suc a)) end,
          left_on a h₀ o,
          left_off (suc a) h₁ off,
          count_end fs (suc (suc a)) end,
          quad_read a (suc a) 0 0 (next_in_lem a h₁) (next_round (suc a) end) off,
        )

    line_traced : (a : ℕ) → suc a < n → on_at fs a ≡ true → on_at fs (suc a) ≡ true → Traced (suc a) → Traced a
    unfolding outline_from
    line_traced a h₁ o on later =
        let h₀ : a < n = omega arith in
        rw (rest_more (suc a) h₁, on, left_on a h₀ o, line_read a (suc a) (left (suc a)) (next_in_lem a h₁) on, later)

    quad_traced : (a : ℕ) → suc (suc a) < n → on_at fs a ≡ true → on_at fs (suc a) ≡ false → on_at fs (suc (suc a)) ≡ true → Traced (suc (suc a)) → Traced a
    unfolding outline_from
    quad_traced a h₂ o off on later =
        let h₀ : a < n = omega arith in
        let h₁ : suc a < n = omega arith in
        rw (
          rest_more (suc a) h₁,
          off,
          rest_more (suc (suc a)) h₂,
          on,
          left_on a h₀ o,
          left_off (suc a) h₁ off,
          quad_read a (suc a) (suc (suc a)) (left (suc (suc a))) (next_in_lem a h₁) (next_in_lem (suc a) h₂) off,
          later,
        )

    -- the whole contour
    pub outline_is : outline (points xs ys fs) ≡ segments 0 (count_of fs)
    unfolding outline
    outline_is = rw (rest_more 0 ok.some, ok.first) (from_first Traced traced_line traced_quad line_traced quad_traced)

    count_is : count_of fs ≡ length (outline (points xs ys fs))
    count_is = sym (ap length outline_is ∙ segments_length 0 (count_of fs))

    segment_is : (k : ℕ) (d : Seg) → k < count_of fs → seg_at xs ys fs k ≡ get_or (outline (points xs ys fs)) k d
    segment_is k d h = sym (ap (λ (l : List Seg). get_or l k d) outline_is ∙ segments_at 0 (count_of fs) k d h)

    -- from a start on, as many segments on as there are on-curve points, is place 0
    abbrev Closes : ℕ → Type 0
    Closes a = place_after fs a (left a) ≡ 0

    one_left : (a : ℕ) → left a ≡ 1 → end_of fs a ≡ 0 → Closes a
    unfolding place_after
    one_left a m e = rw (m, e)

    more_left : (a b : ℕ) → left a ≡ suc (left b) → end_of fs a ≡ b → Closes b → Closes a
    more_left a b m e later = rw m (place_first fs a (left b) ∙ rw e later)

    closes : place_after fs 0 (count_of fs) ≡ 0
    closes = from_first Closes
        (λ a e o.
        let end : n ≤ suc a = omega arith in
        one_left a (left_on a (omega arith) o ∙ ap suc (count_end fs (suc a) end)) (line_ends a 0 (next_round a end) ok.first))
        (λ a e o off.
        let end : n ≤ suc (suc a) = omega arith in
        one_left a (left_on a (omega arith) o ∙ ap suc (left_off (suc a) (omega arith) off ∙ count_end fs (suc (suc a)) end))
        (quad_ends a (suc a) 0 (next_in_lem a (omega arith)) (next_round (suc a) end) off))
        (λ a h o on later. more_left a (suc a) (left_on a (omega arith) o) (line_ends a (suc a) (next_in_lem a h) on) later)
        (λ a h o off on later.
        more_left a (suc (suc a)) (left_on a (omega arith) o ∙ ap suc (left_off (suc a) (omega arith) off))
        (quad_ends a (suc a) (suc (suc a)) (next_in_lem a (omega arith)) (next_in_lem (suc a) h) off) later)

    goes_round : (k : ℕ) → seg_at xs ys fs (count_of fs + k) ≡ seg_at xs ys fs k
    goes_round k = ap (seg_from xs ys fs) (place_after_lem fs 0 (count_of fs) k ∙ ap (λ (a : ℕ). place_after fs a k) closes)

pub read_by_opentype : SegmentsAreOpenTypes
read_by_opentype xs ys fs h =
    let ok = accepted xs ys fs h in
    record { count = count_is xs ys fs ok; segment = segment_is xs ys fs ok; round = goes_round xs ys fs ok }
