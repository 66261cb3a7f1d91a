-- Each break of a run has the length of a place, and later breaks have later places; so the lengths of breaks rise. Assumes nothing.
use Prim.Native.Nat.{ℕ, zero, suc, ◌+◌, ◌-◌, ◌*◌, ◌^◌, ◌≤◌, ◌<◌}
use mathlib.Core.Bool.{Bool, true, false, true≢false}
use mathlib.Core.List.{List, [], ◌∷◌, ◌++◌}
use mathlib.Core.Path.{◌≡◌, refl, sym, ap, ◌∙◌, subst}
use native.Mathlib.Nat.{mul_assoc, mul_comm, mul_left_comm, mul-pos, mul-le-mul, mul-le-mul_right, zero-lt-suc}
use native.Mathlib.Omega.{arith}
use borrow.Author.Tests.{ne_eqb}
use lib.Dec.{T, leb}
use lib.IntN.{ℤ, pos}
use lib.ListN.{length, get_or, set}
use lib.Ieee.{Float, nan, inf, fin, binary64, up, down, add, mul, div, lt, le, of_int, to_unsigned}
use lib.Ieee.Exact.{HasValue}
use lib.Ieee.Fits.{up_pos, down_pos}
use lib.Ieee.Casts.{to_unsigned-lt}
use lib.Ieee.Order.{round_mono}
use Rattle.float.specs.Numbers.{nought, two}
use Rattle.float.proofs.Nearly.{at_most}
use Rattle.float.proofs.NotNegative.{NotNegative, number, mul_plus, div_plus, rounded_plus}
use Rattle.geometry.specs.declared.Break.{Break}
use Rattle.geometry.specs.declared.Quad.{Quad}
use Rattle.outline.specs.Segments.{start_of}
use Rattle.breaks.specs.declared.Grid.{Grid}
use Rattle.breaks.specs.declared.Placed.{Placed}
use Rattle.breaks.specs.declared.Stopped as S
use Rattle.breaks.specs.declared.Stopped.TheVariants as Stopped
use Rattle.geometry.specs.declared.Point.{Point}
use Rattle.std.specs.Prelude.{Option, Some, None, Result, Ok, Err}
use Rattle.breaks.specs.Breaks.{Row, packed_of, break_at, place_at, place_of, places_of, length_at, unless_past, placed, Finding, so, stopped, pushed_if, opened}
use Rattle.breaks.specs.Breaks as Breaks
use Rattle.breaks.specs.Breaks.{replaced_if, joined_if, opens, join_of, stepped, walk, RunBreaks, breaks, stopped_as, run_breaks_of, breaks_of}
use Rattle.lookup.specs.Lookup.{xy_at, dir_at}
use Rattle.samples.specs.Samples.{Sample, Run, thetas_of, quads_of, length_all, finished, filled, last_step, last_of, nowhere, sweep_all, begun, run_of}
use Rattle.samples.specs.Samples as Samples
use Rattle.survey.specs.Survey.{surveyed, sample_room, break_room, searched, after_sampling, survey_of}
use Rattle.survey.specs.Never.{Sixteen}
use Rattle.survey.specs.Along.{LengthsRise}
use Rattle.survey.proofs.Bounded.{Within, mul_within}
use Rattle.survey.proofs.Inside.{int_value, int_within}
use Rattle.survey.proofs.Reach.{run_reaches}
use Rattle.survey.proofs.Speeds.{Size, endless, length_size}
use Rattle.survey.proofs.Speeds as Speeds

-- ---- breaks with the lengths of places: f k is the length at place k

module _ (f : ℕ → Float) where
  -- the breaks of a row, at places from lo on and below hi, each later than the one before it
  data Along : ℕ → ℕ → Row → Type 0 where
    none : {lo hi : ℕ} → lo ≤ hi → Along lo hi []
    next : {lo hi : ℕ} {x : List Float} {row : Row} (k : ℕ) → lo ≤ k → get_or x 0 nan ≡ f k → Along (suc k) hi row → Along lo hi (x ∷ row)

  spread : {lo hi : ℕ} {row : Row} → Along lo hi row → lo ≤ hi
  spread (none h) = h
  spread (next k h e a) = omega (arith, spread a)

  -- one more break, at the place that comes then
  more : {lo hi : ℕ} {row : Row} (x : List Float) (k : ℕ) → hi ≤ k → get_or x 0 nan ≡ f k → Along lo hi row → Along lo (suc k) (row ++ (x ∷ []))
  more {lo} x k h e (none l) =
      let first : lo ≤ k = omega arith in
      let over : suc k ≤ suc k = omega arith in
      next k first e (none over)
  more x k h e (next j l s a) = next j l s (more x k h e a)

  -- another in the place of the last
  instead : {lo hi : ℕ} (y : List Float) (row : Row) (x : List Float) (k : ℕ) → hi ≤ k → get_or x 0 nan ≡ f k → Along lo hi (y ∷ row) →
      Along lo (suc k) (set (y ∷ row) (length row) x)
  instead {lo} y [] x k h e (next j l s a) =
      let first : lo ≤ k = omega (arith, spread a) in
      let over : suc k ≤ suc k = omega arith in
      next k first e (none over)
  instead y (z ∷ row) x k h e (next j l s a) = next j l s (instead z row x k h e a)

  further : {lo hi : ℕ} {row : Row} (k : ℕ) → hi ≤ k → Along lo hi row → Along lo k row
  further {lo} k h (none l) =
      let over : lo ≤ k = omega arith in
      none over
  further k h (next j l s a) = next j l s (further k h a)

  -- ---- a place of a row

  record At (lo hi : ℕ) (s : Float) : Type 0 where
    place : ℕ
    from : lo ≤ place
    below : place < hi
    is : s ≡ f place

  at : {lo hi : ℕ} {row : Row} → Along lo hi row → (i : ℕ) → i < length row → At lo hi (break_at row i).s
  at (none l) i h = absurd (omega arith)
  at (next k l s a) zero h = record { place = k; from = l; below = omega (arith, spread a); is = s }
  at (next k l s a) (suc i) h =
      let later = at a i (omega arith) in
      record { place = later.place; from = omega (arith, later.from); below = later.below; is = later.is }

  -- where the lengths at places rise, so do those of breaks
  rises : {lo hi : ℕ} {row : Row} → ((j k : ℕ) → j < k → k < hi → T (le (f j) (f k))) → Along lo hi row → (i j : ℕ) → i < j → j < length row →
      T (le (break_at row i).s (break_at row j).s)
  rises up (none l) i j h n = absurd (omega arith)
  rises up (next k l s a) zero zero h n = absurd (omega arith)
  rises up (next k l s a) zero (suc j) h n =
      let later = at a j (omega arith) in
      rw (s, later.is) (up k later.place (omega (arith, later.from)) later.below)
  rises up (next k l s a) (suc i) zero h n = absurd (omega arith)
  rises up (next k l s a) (suc i) (suc j) h n = rises up a i j (omega arith) (omega arith)

  -- ---- a walk over places

  data Walked : ℕ → Finding → Type 0 where
    rows : {k : ℕ} (row : Row) {d : Float} → Along 0 k row → Walked k (so row d)
    is_stopped : {k : ℕ} {e : S.Stopped} → Walked k (stopped e)

  data Has (k : ℕ) : Result Placed S.Stopped → Type 0 where
    has : (p : Placed) → p.place.s ≡ f k → Has k (Ok p)
    has_none : {e : S.Stopped} → Has k (Err e)

  pushes : (t : Bool) (room k : ℕ) (row : Row) (b : Break) (dist : Float) → b.s ≡ f k → Along 0 k row → Walked (suc k) (pushed_if t row b dist)
  pushes true room k row b dist e a = is_stopped
  pushes false room k row b dist e a = rows _ (more (packed_of b) k (omega arith) e a)

  replaces : (t : Bool) (k : ℕ) (y : List Float) (row : Row) (d : Float) (b : Break) → b.s ≡ f k → Along 0 k (y ∷ row) →
      Walked (suc k) (replaced_if t (y ∷ row) d b)
  replaces true k y row d b e a =
      let end : length (y ∷ row) - 1 ≡ length row = omega arith in
      rw end (rows _ (instead y row (packed_of b) k (omega arith) e a))
  replaces false k y row d b e a = rows _ (further (suc k) (omega arith) a)

  joins : (t : Bool) (room k : ℕ) (y : List Float) (row : Row) (d : Float) (b : Break) (dist : Float) → b.s ≡ f k → Along 0 k (y ∷ row) →
      Walked (suc k) (joined_if t room (y ∷ row) d b dist)
  unfolding opened
  joins true room k y row d b dist e a = pushes (leb room (length (y ∷ row))) room k (y ∷ row) b dist e a
  joins false room k y row d b dist e a = replaces (lt dist d) k y row d b e a

  steps : (room k : ℕ) {g : Finding} {p : Result Placed S.Stopped} → Walked k g → Has k p → Walked (suc k) (stepped room g p)
  unfolding join_of opened opens
  steps room k (rows [] a) (has p e) = pushes (leb room 0) room k [] p.place p.dist e a
  steps room k (rows (y ∷ row) {d} a) (has p e) = joins (opens (y ∷ row) p.place.xy) room k y row d p.place p.dist e a
  steps room k (rows row a) has_none = is_stopped
  steps room k is_stopped p = is_stopped

  walks : (n room : ℕ) (place : ℕ → Result Placed S.Stopped) (i : ℕ) {g : Finding} → ((k : ℕ) → Has k (place k)) → Walked i g → Walked (i + n) (walk n room place i g)
  unfolding walk
  walks zero room place i {g} all w =
      let e : i + 0 ≡ i = omega arith in
      subst (λ (m : ℕ). Walked m g) (sym e) w
  walks (suc n) room place i {g} all w =
      let s : suc i ≡ i + 1 = omega arith in
      let e : i + 1 + n ≡ i + suc n = omega arith in
      subst (λ (m : ℕ). Walked m (walk n room place (i + 1) (stepped room g (place i)))) e
      (walks n room place (i + 1) all (subst (λ (m : ℕ). Walked m (stepped room g (place i))) s (steps room i w (all i))))

  -- from the first place on
  walked : (n room : ℕ) (place : ℕ → Result Placed S.Stopped) → ((k : ℕ) → Has k (place k)) → Walked n (walk n room place 0 (so [] nought))
  walked n room place all =
      let e : 0 + n ≡ n = omega arith in
      let start : 0 ≤ 0 = omega arith in
      subst (λ (m : ℕ). Walked m (walk n room place 0 (so [] nought))) e (walks n room place 0 all (rows [] (none start)))

-- ---- the places of a run

placed_has : (f : ℕ → Float) (g : Grid) (k : ℕ) (s : Float) → s ≡ f k → (o d : Option Point) → Has f k (placed g s o d)
placed_has f g k s e (Some o) (Some d) = has _ e
placed_has f g k s e (Some o) None = has_none
placed_has f g k s e None d = has_none

unless_has : (f : ℕ → Float) (k : ℕ) (t : Bool) {p : Result Placed S.Stopped} → Has f k p → Has f k (unless_past t p)
unless_has f k true h = has_none
unless_has f k false h = h

place_has : (samples : List Sample) (g : Grid) (len : Float) (k : ℕ) → Has (length_at len (places_of len)) k (place_of samples g len k)
unfolding place_at
place_has samples g len k =
    let s = length_at len (places_of len) k in
    unless_has (length_at len (places_of len)) k (leb (length samples) (to_unsigned 64 s))
    (placed_has (length_at len (places_of len)) g k s refl (xy_at samples s) (dir_at samples s))

-- ---- length * i / n does not fall as i rises, since rounding keeps the order

by_parts : (M i j de dg dd pg qd : ℕ) → pg * 1 ≡ i * dg → qd * 1 ≡ j * dd → i ≤ j → M * pg * (de * dd) ≤ M * qd * (de * dg)
by_parts M i j de dg dd pg qd v w h =
    let p : pg ≡ i * dg = omega arith in
    let q : qd ≡ j * dd = omega arith in
    let left : M * (i * dg) * (de * dd) ≡ i * (M * (dg * (de * dd))) = simp (mul_assoc, mul_left_comm) in
    let right : M * (j * dd) * (de * dg) ≡ j * (M * (dg * (de * dd))) = simp (mul_assoc, mul_comm, mul_left_comm) in
    rw (p, q, left, right) (mul-le-mul_right (M * (dg * (de * dd))) h)

mul_rises : (m : ℕ) (e : ℤ) (x y : Float) (i j : ℕ) → HasValue x false i 1 → HasValue y false j 1 → i ≤ j →
    T (le (mul binary64 (fin false m e) x) (mul binary64 (fin false m e) y))
unfolding mul
mul_rises m e (fin true p g) y i j v w h = absurd (true≢false v.0)
mul_rises m e (fin false p g) (fin true q d) i j v w h = absurd (true≢false w.0)
mul_rises m e (fin false p g) (fin false q d) i j v w h =
    round_mono binary64 (m * up e * (p * up g)) (down e * down g) (m * up e * (q * up d)) (down e * down d) (mul-pos (down_pos e) (down_pos g))
    (mul-pos (down_pos e) (down_pos d)) (by_parts (m * up e) i j (down e) (down g) (down d) (p * up g) (q * up d) v.1 w.1 h)
mul_rises m e nan y i j v w h = elim v [ ]
mul_rises m e (inf _) y i j v w h = elim v [ ]
mul_rises m e (fin false p g) nan i j v w h = elim w [ ]
mul_rises m e (fin false p g) (inf _) i j v w h = elim w [ ]

div_rises : {a b : ℕ} {x y : Float} (z : Float) (n : ℕ) → NotNegative x → NotNegative y → Within a x → Within b y → T (le x y) → HasValue z false n 1 → 0 < n →
    T (le (div binary64 x z) (div binary64 y z))
unfolding div le
div_rises (fin true p g) n x y wx wy h v some = absurd (true≢false v.0)
div_rises (fin false zero g) n x y wx wy h v some = absurd (omega (arith, v.1, mul-pos some (down_pos g)))
div_rises (fin false (suc p) g) n (number m e) (number l d) wx wy h v some =
    rw (ne_eqb (suc p) 0 (λ q. omega arith))
    (round_mono binary64 (m * up e * down g) (suc p * up g * down e) (l * up d * down g) (suc p * up g * down d)
    (mul-pos (mul-pos (zero-lt-suc p) (up_pos g)) (down_pos e)) (mul-pos (mul-pos (zero-lt-suc p) (up_pos g)) (down_pos d))
    (across (m * up e) (l * up d) (down g) (suc p * up g) (down e) (down d) (at_most (m * up e * down d) (l * up d * down e) h)))
  where
    across : (A B c q de dd : ℕ) → A * dd ≤ B * de → A * c * (q * dd) ≤ B * c * (q * de)
    across A B c q de dd k =
        let left : A * c * (q * dd) ≡ A * dd * (c * q) = simp (mul_assoc, mul_comm, mul_left_comm) in
        let right : B * c * (q * de) ≡ B * de * (c * q) = simp (mul_assoc, mul_comm, mul_left_comm) in
        rw (left, right) (mul-le-mul_right (c * q) k)
div_rises {a = a} {b = b} nan n x y wx wy h v some = elim v [ ]
div_rises {a = a} {b = b} (inf _) n x y wx wy h v some = elim v [ ]
div_rises {a = a} {b = b} (fin false (suc p) g) n NotNegative.no_number y wx wy h v some = elim wx [ ]
div_rises {a = a} {b = b} (fin false (suc p) g) n NotNegative.endless y wx wy h v some = elim wx [ ]
div_rises {a = a} {b = b} (fin false (suc p) g) n (number m e) NotNegative.no_number wx wy h v some = elim wy [ ]
div_rises {a = a} {b = b} (fin false (suc p) g) n (number m e) NotNegative.endless wx wy h v some = elim wy [ ]

module _ (m : ℕ) (e : ℤ) (k : ℕ) (small : k ≤ 2 ^ 22) (w : Within k (fin false m e)) where
  part : (i : ℕ) → NotNegative (mul binary64 (fin false m e) (of_int binary64 (pos i)))
  unfolding of_int
  part i = mul_plus (number m e) (rounded_plus i 1)

  lengths_rise : (n i j : ℕ) → i < j → j ≤ n → n < 2 ^ 31 → T (le (length_at (fin false m e) n i) (length_at (fin false m e) n j))
  lengths_rise n i j h l few =
      let many : n ≤ 2 ^ 31 = omega arith in
      let most : k * n ≤ 2 ^ 22 * 2 ^ 31 = mul-le-mul small many in
      let held : (a : ℕ) → a ≤ n → Within (k * n) (mul binary64 (fin false m e) (of_int binary64 (pos a))) =
      λ a below. mul_within w (int_within a n below few) (omega (arith, most)) in
      div_rises (of_int binary64 (pos n)) n (part i) (part j) (held i (omega arith)) (held j l)
      (mul_rises m e _ _ i j (int_value i (omega arith)) (int_value j (omega arith)) (omega arith)) (int_value n (omega arith)) (omega arith)

-- ---- the breaks that a survey finds

-- the length of a sampled run is that of its quads
length_is : (room : ℕ) (qs : List Quad) (row : List Sample) (len : Float) → thetas_of room qs ≡ Samples.sampled row len → length_all qs nought ≡ len
unfolding thetas_of finished
length_is room qs row len e = by (filled room (last_step (last_of nowhere qs) y) (add binary64 y two) (sweep_all room qs nought begun)) e
  where
    y : Float
    y = length_all qs nought

    by : (w : Samples.Walked) → run_of y w ≡ Samples.sampled row len → y ≡ len
    by Samples.full h = absurd cc
    by (Samples.at r ix step) h = cc

-- a row of breaks at the places of a run, whose length is no NaN, not negative and bounded
pub record Lies (row : Row) : Type 0 where
  len : Float
  size : Size len
  most : ℕ
  small : most ≤ 2 ^ 22
  within : Within most len
  along : Along (length_at len (places_of len)) 0 (suc (places_of len)) row

-- a run that is stopped has no breaks
none_found : (e : S.Stopped) (row : Row) → stopped_as e ≡ breaks row → ⊥
none_found Stopped.Full row h = cc
none_found Stopped.Missing row h = cc
none_found Stopped.Past row h = cc

found_lies : (len : Float) → Size len → (k : ℕ) → k ≤ 2 ^ 22 → Within k len → {g : Finding} (row : Row) →
    Walked (length_at len (places_of len)) (suc (places_of len)) g → run_breaks_of g ≡ breaks row → Lies row
found_lies len size k small w row (rows r a) e =
    let same : r ≡ row = cc in
    subst Lies same (record { len = len; size = size; most = k; small = small; within = w; along = a })
found_lies len size k small w row (is_stopped {e = stop}) e = absurd (none_found stop row e)

module _ (sampleRow breakRow : ℕ) (xs ys : List ℤ) (fs : List ℕ) (first count : ℕ) (g : Grid) (samples : List Sample) (row : Row) (sx : Sixteen xs)
    (sy : Sixteen ys) where
  abbrev quads : List Quad
  quads = quads_of xs ys fs first count

  searched_lies : (len : Float) (drawn : List Sample) → thetas_of (sample_room sampleRow) quads ≡ Samples.sampled drawn len → (r : RunBreaks) →
      breaks_of (break_room breakRow) drawn g len ≡ r → searched drawn r ≡ surveyed samples row → Lies row
  unfolding breaks_of
  searched_lies len drawn e (breaks rs) is h =
      let same : rs ≡ row = cc in
      let size = length_size xs ys sx sy fs (start_of fs first) count in
      let reach = run_reaches (sample_room sampleRow) (omega arith) quads drawn len size e in
      found_lies len (subst Size (length_is (sample_room sampleRow) quads drawn len e) size) reach.1.size (omega (arith, reach.0, reach.1.more))
      reach.1.is row (walked (length_at len (places_of len)) (suc (places_of len)) (break_room breakRow) (place_of drawn g len) (place_has drawn g len))
      (is ∙ ap breaks same)
  searched_lies len drawn e (Breaks.refused k) is h = absurd cc
  searched_lies len drawn e Breaks.unchanged is h = absurd cc

  sampled_lies : (r : Run) → thetas_of (sample_room sampleRow) quads ≡ r → after_sampling (break_room breakRow) g r ≡ surveyed samples row → Lies row
  sampled_lies Samples.refused e h = absurd cc
  sampled_lies (Samples.sampled drawn len) e h = searched_lies len drawn e (breaks_of (break_room breakRow) drawn g len) refl h

  pub lies : survey_of sampleRow breakRow xs ys fs first count g ≡ surveyed samples row → Lies row
  unfolding survey_of
  lies h = sampled_lies (thetas_of (sample_room sampleRow) (quads_of xs ys fs first count)) refl h

-- ---- what follows of their lengths

upward : {y : Float} → Size y → (k : ℕ) → k ≤ 2 ^ 22 → Within k y → (n i j : ℕ) → i < j → j ≤ n → n < 2 ^ 31 → T (le (length_at y n i) (length_at y n j))
upward (Speeds.number m d) k small w = lengths_rise m d k small w
upward endless k small w = elim w [ ]

pub lengths_rising : LengthsRise
lengths_rising sampleRow breakRow xs ys fs first count g samples row sx sy h =
    let l = lies sampleRow breakRow xs ys fs first count g samples row sx sy h in
    let n = places_of l.len in
    rises (length_at l.len n) (λ j k p below. upward l.size l.most l.small l.within n j k p (omega arith) (to_unsigned-lt 31 _)) l.along

-- none is negative
length_plus : {y : Float} → Size y → (n i : ℕ) → NotNegative (length_at y n i)
unfolding of_int
length_plus endless n i = div_plus (mul_plus NotNegative.endless (rounded_plus i 1)) (rounded_plus n 1)
length_plus (Speeds.number m e) n i = div_plus (mul_plus (number m e) (rounded_plus i 1)) (rounded_plus n 1)

pub lengths_plus : {row : Row} → Lies row → (i : ℕ) → i < length row → NotNegative (break_at row i).s
lengths_plus l i h =
    let a = at (length_at l.len (places_of l.len)) l.along i h in
    subst NotNegative (sym a.is) (length_plus l.size (places_of l.len) a.place)
