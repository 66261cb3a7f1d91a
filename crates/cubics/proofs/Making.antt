-- Laws of the row of points that is filled: one point more, lists one after the other, nothing more, and how the halvings left keep the
-- numbers in reach. Assumes nothing.
use Prim.Native.Nat.{ℕ, zero, suc, ◌+◌, ◌-◌, ◌*◌, ◌≤◌, ◌<◌}
use mathlib.Core.Bool.{Bool, true, false, ◌&&◌, ◌||◌, true≢false, or-false}
use mathlib.Core.List.{List, [], ◌∷◌, ◌++◌, map, map-append, append-nil}
use mathlib.Core.Path.{◌≡◌, refl, sym, ap, ◌∙◌}
use native.Mathlib.Nat.{min-le_right, min-eq_left}
use native.Mathlib.Omega.{arith}
use borrow.Author.Tests.{lt-ltb, le-ltb, ltb-false}
use lib.IntN.{ℤ, pos, negsuc}
use mir.Syntax.{w16}
use mir.Val.{SFits, to_z, of_z}
use mir.Facts.{to_z-of_z}
use native.Mathlib.Numerals.{add-one}
use lib.ListN.{length, get_or, take, drop, length-take}
use lib.Seq.{drop-cons}
use Rattle.refusals.specs.Refusals.{is_on}
use Rattle.contour.specs.Points.{Points}
use Rattle.contour.specs.Writing.{unless_over, written, extended, writing_in, Appended}
use Rattle.contour.specs.declared.Written.{Written}
use Rattle.contour.specs.Laws.{wrote_more}
use Rattle.halving.specs.Cubic.{Curve, first_part, second_part, bent, outside, point, control_point, start_point, between}
use Rattle.halving.specs.Exact.{Reach, cut_to}
use Rattle.halving.proofs.Halving.{reach_less}
use Rattle.cubics.specs.Replacing.{after_pair, on_at, itself_at, pair_at, points_at, points_to, outside_point, any_outside}
use Rattle.cubics.specs.Making.{stored, written_of, nothing, Makes, MadeOf}
use Rattle.cubics.specs.Refusing.{unpaired, off_after, unpaired_from}
use Rattle.cubics.specs.declared.Made.{Made}

or_assoc : (a b c : Bool) → ((a || b) || c) ≡ (a || (b || c))
or_assoc true b c = refl
or_assoc false b c = refl

pub any_append : (ps qs : Points) → any_outside (ps ++ qs) ≡ (any_outside ps || any_outside qs)
unfolding any_outside
any_append [] qs = refl
any_append (p ∷ ps) qs = ap (λ (b : Bool). outside_point p || b) (any_append ps qs) ∙ sym (or_assoc (outside_point p) (any_outside ps) (any_outside qs))

-- one point
pub makes_one : {row₀ row : Points} {m : Made} {v : Written} {p : List ℤ} {far all : Bool} (q : List ℤ) → Appended row₀ (written_of m) row v (p ∷ []) → all ≡ (m.far || far) →
    p ≡ stored q → far ≡ outside_point q → Makes row₀ m row (record { count = v.count; over = v.over; far = all }) (q ∷ [])
unfolding any_outside
makes_one {row₀} {row} {m} {v} {p} {far} {all} q wrote both is out = record {
  wrote = rw (← is) wrote;
  far = both ∙ ap (λ (b : Bool). m.far || b) (out ∙ sym (or-false (outside_point q)));
}

-- one list after the other
pub makes_more : {row₀ row₁ row₂ : Points} {m m₁ m₂ : Made} (ps qs : Points) → length row₁ ≡ length row₀ → Makes row₀ m row₁ m₁ ps → Makes row₁ m₁ row₂ m₂ qs →
    Makes row₀ m row₂ m₂ (ps ++ qs)
makes_more {row₀} {row₁} {row₂} {m} {m₁} {m₂} ps qs same first second = record {
  wrote =
      rw (map-append stored ps qs)
      (wrote_more (length row₀) (map stored ps) (map stored qs) same second.wrote (writing_in row₀ (written_of m)) first.wrote);
  far = second.far ∙ rw (first.far, any_append ps qs) (or_assoc m.far (any_outside ps) (any_outside qs));
}

-- nothing more
none_more : (row : Points) (n : ℕ) (b : Bool) → n ≤ length row → unless_over b (take n row) ≡ extended (length row) (unless_over b (take n row)) []
unfolding written
none_more row n true h = refl
none_more row n false h =
    let few : length (take n row ++ []) ≤ length row = rw append-nil (omega (arith, length-take n row)) in
    rw (le-ltb (length row) (length (take n row ++ [])) few, append-nil)

pub makes_none : (row : Points) (m : Made) → m.count ≤ length row → Makes row m row m []
unfolding any_outside
makes_none row m h = record { wrote = record { within = h; is = none_more row m.count m.over h }; far = sym (or-false m.far) }

-- from nothing
pub made_from : {row₀ row : Points} {r : Made} {ps : Points} → Makes row₀ nothing row r ps → MadeOf (length row₀) row r ps
made_from v = record { wrote = v.wrote; far = v.far }

-- ---- the place after a pair

pub after_more : (i n : ℕ) → 2 < n - i → after_pair i n ≡ i + 2
after_more i n h = rw (lt-ltb (i + 2) n (omega arith))

pub after_none : (i n : ℕ) → n - i ≤ 2 → after_pair i n ≡ 0
after_none i n h = rw (le-ltb (i + 2) n (omega arith))

-- ---- a point as the code has it

cut_fits : (z : ℤ) → SFits w16 (cut_to z)
cut_fits (pos n) = record { sfits = omega (arith, min-le_right n 32767) }
cut_fits (negsuc n) = record { sfits = omega (arith, min-le_right n 32767) }

back : (a y : ℤ) → a ≡ cut_to y → to_z w16 (of_z w16 a) ≡ cut_to y
back a y h = rw h (to_z-of_z (cut_fits y))

pub as_stored : (a b on x y o : ℤ) → a ≡ cut_to x → b ≡ cut_to y → on ≡ cut_to o →
    ◌≡◌ {A = List ℤ} (to_z w16 (of_z w16 a) ∷ to_z w16 (of_z w16 b) ∷ to_z w16 (of_z w16 on) ∷ []) (stored (point x y o))
as_stored a b on x y o ha hb ho = rw (back a x ha, back b y hb, back on o ho)

-- a number of 16 bits is not outside, and one that is not outside is kept
pub not_outside : (z : ℤ) → SFits w16 z → outside z ≡ false
not_outside (pos n) h = le-ltb 32767 n (omega (arith, h.sfits))
not_outside (negsuc n) h = le-ltb 32767 n (omega (arith, h.sfits))

pub kept : (z : ℤ) → outside z ≡ false → z ≡ cut_to z
kept (pos n) h = rw (min-eq_left {n = n} {m = 32767} (ltb-false 32767 n h))
kept (negsuc n) h = rw (min-eq_left {n = n} {m = 32767} (ltb-false 32767 n h))

pub outside_point_lem : (x y on : ℤ) → outside on ≡ false → outside_point (point x y on) ≡ (outside x || outside y)
unfolding outside_point
outside_point_lem x y on h = rw h (ap (λ (b : Bool). outside x || b) (or-false (outside y)))

both_false : (a b : Bool) → (a || b) ≡ false → (a ≡ false) × (b ≡ false)
both_false true b h = absurd (true≢false h)
both_false false b h = (refl, h)

point_kept : (p : List ℤ) → outside_point p ≡ false → stored p ≡ p
unfolding outside_point
point_kept [] h = refl
point_kept (z ∷ p) h =
    let both = both_false (outside z) (outside_point p) h in
    λ i. sym (kept z both.0) i ∷ point_kept p both.1 i

pub all_kept : (ps : Points) → any_outside ps ≡ false → map stored ps ≡ ps
unfolding any_outside
all_kept [] h = refl
all_kept (p ∷ ps) h =
    let both = both_false (outside_point p) (any_outside ps) h in
    λ i. point_kept p both.0 i ∷ all_kept ps both.1 i

-- ---- one halving

module _ (left e : ℕ) (n : Curve) where
  pub none_left : left ≡ 0 → between left e n ≡ control_point e n ∷ []
  unfolding between
  none_left h = rw h

  pub not_halved : bent e n ≡ false → between left e n ≡ control_point e n ∷ []
  unfolding between
  not_halved h = by left
    where
      by : (left : ℕ) → between left e n ≡ control_point e n ∷ []
      by zero = refl
      by (suc l) = rw h

  pub halved : (left ≡ 0 → ⊥) → bent e n ≡ true →
      between left e n ≡ between (left - 1) (e + 3) (first_part n) ++ (start_point (e + 3) (second_part n) ∷ between (left - 1) (e + 3) (second_part n))
  unfolding between
  halved some h = by left some
    where
      by : (left : ℕ) → (left ≡ 0 → ⊥) →
          between left e n ≡ between (left - 1) (e + 3) (first_part n) ++ (start_point (e + 3) (second_part n) ∷ between (left - 1) (e + 3) (second_part n))
      by zero some = absurd (some refl)
      by (suc l) some = let p : suc l - 1 ≡ l = omega arith in rw (p, h)

pub reach_next : (left : ℕ) {e b : ℕ} → (left ≡ 0 → ⊥) → Reach left e b → Reach (left - 1) (e + 3) (8 * b)
reach_next zero some h = absurd (some refl)
reach_next (suc l) some h = let p : suc l - 1 ≡ l = omega arith in rw p (reach_less h)

-- ---- refusal 5: what is left of the row, after n off-curve points

pub pairs_end : (flags : List ℕ) (i n : ℕ) → i < length flags → (is_on (get_or flags i 0) && unpaired n) ≡ true → unpaired_from (drop i flags) n ≡ true
unfolding unpaired_from
pairs_end flags i n h stop = rw (drop-cons flags i 0 h, stop)

pub pairs_on : (flags : List ℕ) (i n m : ℕ) → i < length flags → (is_on (get_or flags i 0) && unpaired n) ≡ false → m ≡ off_after (is_on (get_or flags i 0)) n →
    unpaired_from (drop i flags) n ≡ unpaired_from (drop (i + 1) flags) m
unfolding unpaired_from
pairs_on flags i n m h go next = rw (drop-cons flags i 0 h, go, next, add-one i)

pub pairs_over : (flags : List ℕ) (i n : ℕ) → i ≤ length flags → length flags ≤ i → unpaired_from (drop i flags) n ≡ unpaired n
unfolding unpaired_from
pairs_over flags i n h k = let e : i ≡ length flags = omega arith in rw (e, drop_all flags)
  where
    drop_all : (fs : List ℕ) → drop (length fs) fs ≡ []
    drop_all [] = refl
    drop_all (f ∷ fs) = drop_all fs

pub off_most : (t : Bool) (n i : ℕ) → n ≤ i → off_after t n ≤ i + 1
off_most true n i h = omega arith
off_most false n i h = omega arith

-- ---- a place of the contour

module _ (xs ys : List ℤ) (fs : List ℕ) (i : ℕ) where
  pub place_on : on_at fs i ≡ true → points_at xs ys fs i ≡ itself_at xs ys fs i
  place_on h = rw h

  pub place_pair : on_at fs i ≡ false → on_at fs (i - 1) ≡ true → points_at xs ys fs i ≡ pair_at xs ys fs i
  place_pair h k = rw (h, k)

  pub place_none : on_at fs i ≡ false → on_at fs (i - 1) ≡ false → points_at xs ys fs i ≡ []
  place_none h k = rw (h, k)

  pub place_zero : on_at fs i ≡ false → i ≡ 0 → points_at xs ys fs i ≡ []
  place_zero h z =
      let e : i - 1 ≡ i = omega arith in
      place_none h (rw e h)

  pub points_next : points_to xs ys fs (i + 1) ≡ points_to xs ys fs i ++ points_at xs ys fs i
  unfolding points_to
  points_next = ap (points_to xs ys fs) (add-one i)

pub points_none : (xs ys : List ℤ) (fs : List ℕ) → points_to xs ys fs 0 ≡ []
unfolding points_to
points_none xs ys fs = refl

pub one_less : (left : ℕ) → (left ≡ 0 → ⊥) → left - 1 < left
one_less zero some = absurd (some refl)
one_less (suc l) some = omega arith
