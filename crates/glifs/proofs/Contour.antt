-- The text of a contour's points, read in a contour. Assumes nothing.
use Prim.Native.Nat.{ℕ, zero, suc, ◌+◌, ◌-◌, ◌≤◌, ◌<◌}
use native.Mathlib.Omega.{arith}
use mathlib.Core.Bool.{Bool, true, false, not}
use mathlib.Core.List.{List, [], ◌∷◌, ◌++◌, append_assoc}
use mathlib.Core.Path.{◌≡◌, refl, sym, ap, subst, ◌∙◌}
use borrow.Author.Tests.{lt-ltb, ne_eqb, eq-eqb}
use lib.Dec.{eqb}
use lib.IntN.{ℤ, pos}
use lib.Signed.{mag}
use lib.ListN.{get_or, set}
use Rattle.lines.specs.Text as Text
use Rattle.gliftext.specs.Pick.{pick, both, either, most}
use Rattle.gliftext.specs.Words.{no_number}
use Rattle.gliftext.specs.Text.{is_kind}
use Rattle.gliftext.specs.declared.text.Kind.TheVariants.{Offcurve}
use Rattle.gliftext.specs.declared.text.Point.{Point}
use Rattle.glif.specs.Outline.{is_far, offset_of, cubic_of, wrong_point, with_point, mark_of}
use Rattle.glif.specs.declared.outline.Sum.{Sum}
use Rattle.glifwrite.specs.Contours.{is_on}
use Rattle.gliftext.proofs.Picks.{plain_more, not-not}
use Rattle.glifwrite.specs.Texts.{contour_text, Small}
use Rattle.glif.proofs.Stems.{Abs, Fed, fed_of, place_of, steps, steps_append, closed_fed}
use Rattle.glifs.proofs.Point.{Ready, Kept, written_kind, point_of, point_closed, point_read}
use Rattle.glifs.specs.Back.{number_in, Enters}
use Rattle.glifs.proofs.Back.{coordinate_reads_back}

-- ---- what is summed up

-- so many points stand, so many enter; of the contour so far: how many, one on-curve, the first off-curve, the first a line, the last off-curve
abbrev pub sum_of : (contours count full here : ℕ) → (on lead straight off far : Bool) → Sum
sum_of contours count full here on lead straight off far =
    record {
      contours = contours;
      points = count;
      full = full;
      here = here;
      on = on;
      lead = lead;
      straight = straight;
      off = off;
      wrong = false;
      cubic = false;
      far = far;
      bare = false;
    }

-- an off-curve point after an off-curve one enters with the middle
abbrev pub enters : Bool → ℕ → ℕ
enters between n = pick between (suc (suc n)) (suc n)

module _ (x y : ℤ) (small_x : mag x < 32768) (small_y : mag y < 32768) (far : Bool) where
  abbrev ex : Enters x (number_in (Text.signed_of x) no_number)
  ex = coordinate_reads_back x small_x

  abbrev ey : Enters y (number_in (Text.signed_of y) no_number)
  ey = coordinate_reads_back y small_y

  still_far : either far (either (is_far (number_in (Text.signed_of x) no_number)) (is_far (number_in (Text.signed_of y) no_number))) ≡ far
  unfolding pick
  still_far = rw (ex.near, ey.near) (by far)
    where
      by : (t : Bool) → either t (either false false) ≡ t
      by true = refl
      by false = refl

  first_point : (c m f : ℕ) (on before : Bool) → m < most → f < most →
      with_point (sum_of c m f 0 false false false false far) (point_of x y on before) ≡ sum_of c (suc m) (suc f) 1 on (not on) (both on before) (not on) far
  unfolding with_point wrong_point cubic_of pick
  first_point c m f true true h l = rw (plain_more m h, plain_more f l, plain_more 0 (omega arith), still_far, ex.number, ey.number, ex.whole, ey.whole)
  first_point c m f true false h l = rw (plain_more m h, plain_more f l, plain_more 0 (omega arith), still_far, ex.number, ey.number, ex.whole, ey.whole)
  first_point c m f false before h l = rw (plain_more m h, plain_more f l, plain_more 0 (omega arith), still_far, ex.number, ey.number, ex.whole, ey.whole)

  next_point : (c m f k : ℕ) (was lead straight off on : Bool) → m < most → suc f < most → suc k < most →
      with_point (sum_of c m f (suc k) was lead straight off far) (point_of x y on (not off))
      ≡ sum_of c (suc m) (enters (both (not on) off) f) (suc (suc k)) (either was on) lead straight (not on) far
  unfolding with_point wrong_point cubic_of pick
  next_point c m f k was lead straight true true h l i =
      rw (plain_more m h, plain_more f (omega arith), plain_more (suc k) i, still_far, ex.number, ey.number, ex.whole, ey.whole, lt-ltb 0 (suc k) (omega arith), ne_eqb (suc k) 0 (λ e. omega arith))
  next_point c m f k was lead straight true false h l i =
      rw (plain_more m h, plain_more f (omega arith), plain_more (suc f) l, plain_more (suc k) i, still_far, ex.number, ey.number, ex.whole, ey.whole, lt-ltb 0 (suc k) (omega arith), ne_eqb (suc k) 0 (λ e. omega arith))
  next_point c m f k was lead straight false true h l i =
      rw (plain_more m h, plain_more f (omega arith), plain_more (suc k) i, still_far, ex.number, ey.number, ex.whole, ey.whole, lt-ltb 0 (suc k) (omega arith), ne_eqb (suc k) 0 (λ e. omega arith))
  next_point c m f k was lead straight false false h l i =
      rw (plain_more m h, plain_more f (omega arith), plain_more (suc k) i, still_far, ex.number, ey.number, ex.whole, ey.whole, lt-ltb 0 (suc k) (omega arith), ne_eqb (suc k) 0 (λ e. omega arith))

-- ---- the text of a contour

-- texts that can be followed by any other
pub record Sealed (u : List ℕ) : Type 0 where
  pub before : (v : List ℕ) → fed_of (u ++ v) ≡ fed_of u ++ fed_of v

pub sealed_append : {u v : List ℕ} → Sealed u → Sealed v → Sealed (u ++ v)
sealed_append {u} {v} s t = record {
  before = λ w.
      ap fed_of (append_assoc u v w) ∙ s.before (v ++ w) ∙ ap (λ (l : List Fed). fed_of u ++ l) (t.before w)
      ∙ sym (append_assoc (fed_of u) (fed_of v) (fed_of w)) ∙ ap (λ (l : List Fed). l ++ fed_of w) (sym (s.before v));
}

pub sealed_nil : Sealed []
unfolding fed_of
sealed_nil = record { before = λ v. refl }

pub sealed_run : {u : List ℕ} → Sealed u → (z v : List ℕ) (w : Abs) → steps z (fed_of (u ++ v)) w ≡ steps z (fed_of v) (steps z (fed_of u) w)
sealed_run {u} s z v w = ap (λ (l : List Fed). steps z l w) (s.before v) ∙ steps_append z (fed_of u) (fed_of v) w

pub contour_sealed : (xs ys : List ℤ) (fs : List ℕ) (from to k : ℕ) → Sealed (contour_text xs ys fs from to k)
unfolding contour_text
contour_sealed xs ys fs from to zero = sealed_nil
contour_sealed xs ys fs from to (suc k) = sealed_append (contour_sealed xs ys fs from to k) (record { before = closed_fed (point_closed _ _ _ _) })

-- ---- reading it

-- the place of point i in the scratch row
abbrev pub place : List ℤ → List ℤ → List ℕ → ℕ → Bool → List ℕ
place xs ys fs i first =
    offset_of (number_in (Text.signed_of (get_or xs i (pos 0))) no_number) ∷ offset_of (number_in (Text.signed_of (get_or ys i (pos 0))) no_number) ∷ mark_of first (not (is_on fs i)) ∷ []

-- the scratch row with the first k points of a contour
unfoldable pub placed : List ℤ → List ℤ → List ℕ → ℕ → ℕ → List (List ℕ) → List (List ℕ)
placed xs ys fs from zero ps = ps
placed xs ys fs from (suc k) ps = set (placed xs ys fs from k ps) (from + k) (place xs ys fs (from + k) (eqb k 0))

-- of the first k points of a contour: how many enter, the middles between two of them counted, and whether one is on-curve
unfoldable pub full_to : List ℕ → ℕ → ℕ → ℕ
full_to fs from zero = 0
full_to fs from (suc zero) = 1
full_to fs from (suc (suc k)) = enters (both (not (is_on fs (from + suc k))) (not (is_on fs (from + k)))) (full_to fs from (suc k))

unfoldable pub on_to : List ℕ → ℕ → ℕ → Bool
on_to fs from zero = false
on_to fs from (suc zero) = is_on fs from
on_to fs from (suc (suc k)) = either (on_to fs from (suc k)) (is_on fs (from + suc k))

-- the contour from one place to another, going round
unfoldable pub full_round : List ℕ → ℕ → ℕ → ℕ
full_round fs from to = pick (both (not (is_on fs from)) (not (is_on fs (to - 1)))) (suc (full_to fs from (to - from))) (full_to fs from (to - from))

-- a contour with some points, one of them on-curve
pub record Sound (fs : List ℕ) (from to : ℕ) : Type 0 where
  pub some : from < to
  pub on : on_to fs from (to - from) ≡ true

-- what refusals 1 to 5 leave: some points, the first on-curve, no two neighbours off-curve
pub record Plain (fs : List ℕ) (from to : ℕ) : Type 0 where
  pub some : from < to
  pub first : is_on fs from ≡ true
  pub apart : (j : ℕ) → from ≤ j → suc j < to → is_on fs j ≡ false → is_on fs (suc j) ≡ true

-- never more than two a point
pub full_few : (fs : List ℕ) (from k : ℕ) → full_to fs from (suc k) ≤ suc (k + k)
unfolding full_to pick
full_few fs from zero = omega arith
full_few fs from (suc k) = by (both (not (is_on fs (from + suc k))) (not (is_on fs (from + k)))) (full_few fs from k)
  where
    by : (t : Bool) → full_to fs from (suc k) ≤ suc (k + k) → enters t (full_to fs from (suc k)) ≤ suc (suc k + suc k)
    by true h = omega arith
    by false h = omega arith

-- such a contour enters as it is
module _ {fs : List ℕ} {from to : ℕ} (plain : Plain fs from to) where
  plain_on : (k : ℕ) → on_to fs from (suc k) ≡ true
  unfolding on_to pick
  plain_on zero = plain.first
  plain_on (suc k) = rw (plain_on k)

  plain_next : (k : ℕ) → from + suc k < to → both (not (is_on fs (from + suc k))) (not (is_on fs (from + k))) ≡ false
  unfolding pick
  plain_next k h = by (is_on fs (from + k)) refl
    where
      never : (t : Bool) → both t false ≡ false
      never true = refl
      never false = refl

      by : (t : Bool) → is_on fs (from + k) ≡ t → both (not (is_on fs (from + suc k))) (not (is_on fs (from + k))) ≡ false
      by true e = rw e (never (not (is_on fs (from + suc k))))
      by false e =
          let at : suc (from + k) ≡ from + suc k = omega arith in
          rw (sym (ap (is_on fs) at) ∙ plain.apart (from + k) (omega arith) (omega arith) e)

  plain_full : (k : ℕ) → from + k < to → full_to fs from (suc k) ≡ suc k
  unfolding full_to pick
  plain_full zero h = refl
  plain_full (suc k) h = rw (plain_next k h, plain_full k (omega arith))

  pub plain_sound : Sound fs from to
  plain_sound =
      let some = plain.some in
      let many : suc (to - from - 1) ≡ to - from = omega arith in
      record { some = some; on = subst (λ (k : ℕ). on_to fs from k ≡ true) many (plain_on (to - from - 1)) }

  pub plain_round : full_round fs from to ≡ to - from
  unfolding full_round pick
  plain_round =
      let some = plain.some in
      let many : suc (to - from - 1) ≡ to - from = omega arith in
      rw plain.first (subst (λ (k : ℕ). full_to fs from k ≡ k) many (plain_full (to - from - 1) (omega arith)))

-- after k points, where so many entered before them
unfoldable pub sum_to : List ℕ → ℕ → ℕ → ℕ → ℕ → Bool → ℕ → Sum
sum_to fs c base from to far zero = sum_of c from base 0 false false false false far
sum_to fs c base from to far (suc k) =
    sum_of c (suc (from + k)) (base + full_to fs from (suc k)) (suc k) (on_to fs from (suc k)) (not (is_on fs from)) (both (is_on fs from) (is_on fs (to - 1)))
    (not (is_on fs (from + k))) far

pub kept_then : {z : List ℕ} {u v w : Abs} {a b : Sum} {p q : List (List ℕ)} → Kept z u v a p → Kept z v w b q → Kept z u w b q
kept_then k l = record {
  ready = l.ready;
  said = l.said ∙ k.said;
  long = l.long ∙ k.long;
  below = λ j h. l.below j h ∙ k.below j h;
  sum = l.sum;
  points = l.points;
}

off_kind : (on before : Bool) → is_kind (written_kind on before) Offcurve ≡ not on
off_kind true true = refl
off_kind true false = refl
off_kind false before = refl

module _ (z : List ℕ) (xs ys : List ℤ) (fs : List ℕ) (sx : Small xs) (sy : Small ys) (c base from to : ℕ) (far : Bool) (few : base ≤ 131072) (fits : to ≤ 65536) where
  abbrev before_of : ℕ → Bool
  before_of k = is_on fs (pick (eqb (from + k) from) (to - 1) (from + k - 1))

  abbrev point_at : ℕ → Point
  point_at k = point_of (get_or xs (from + k) (pos 0)) (get_or ys (from + k) (pos 0)) (is_on fs (from + k)) (before_of k)

  before_first : before_of 0 ≡ is_on fs (to - 1)
  unfolding pick
  before_first = ap (λ (t : Bool). is_on fs (pick t (to - 1) (from + 0 - 1))) (eq-eqb (from + 0) from (omega arith))

  before_next : (k : ℕ) → before_of (suc k) ≡ is_on fs (from + k)
  unfolding pick
  before_next k =
      let at : from + suc k - 1 ≡ from + k = omega arith in
      ap (λ (t : Bool). is_on fs (pick t (to - 1) (from + suc k - 1))) (ne_eqb (from + suc k) from (λ e. omega arith)) ∙ ap (is_on fs) at

  enters_more : (t : Bool) (n : ℕ) → enters t (base + n) ≡ base + enters t n
  unfolding pick
  enters_more true n = omega arith
  enters_more false n = omega arith

  sum_next : (k : ℕ) → from + k < to → with_point (sum_to fs c base from to far k) (point_at k) ≡ sum_to fs c base from to far (suc k)
  unfolding sum_to full_to on_to
  sum_next zero h =
      let at : from + 0 ≡ from = omega arith in
      let one : suc base ≡ base + 1 = omega arith in
      rw before_first
      (first_point _ _ (sx (from + 0)) (sy (from + 0)) far c from base (is_on fs (from + 0)) (is_on fs (to - 1)) (omega arith) (omega arith)
      ∙ (λ i. sum_of c (suc (sym at i)) (one i) 1 (is_on fs (at i)) (not (is_on fs (at i))) (both (is_on fs (at i)) (is_on fs (to - 1))) (not (is_on fs (from + 0))) far))
  sum_next (suc k) h =
      let at : suc (from + k) ≡ from + suc k = omega arith in
      let was : before_of (suc k) ≡ not (not (is_on fs (from + k))) = before_next k ∙ sym (not-not (is_on fs (from + k))) in
      let lead = not (is_on fs from) in
      let straight = both (is_on fs from) (is_on fs (to - 1)) in
      let between = both (not (is_on fs (from + suc k))) (not (is_on fs (from + k))) in
      rw was
      (next_point _ _ (sx (from + suc k)) (sy (from + suc k)) far c (suc (from + k)) (base + full_to fs from (suc k)) k (on_to fs from (suc k)) lead straight
      (not (is_on fs (from + k))) (is_on fs (from + suc k)) (omega arith) (omega (arith, full_few fs from k)) (omega arith)
      ∙ (λ i. sum_of c (suc (at i)) (enters_more between (full_to fs from (suc k)) i) (suc (suc k)) (either (on_to fs from (suc k)) (is_on fs (from + suc k))) lead straight
      (not (is_on fs (from + suc k))) far))

  place_is : (k : ℕ) (s : Sum) → s.here ≡ k → place_of s (point_at k) ≡ place xs ys fs (from + k) (eqb k 0)
  place_is k s e =
      λ i. offset_of (point_at k).x ∷ offset_of (point_at k).y ∷ mark_of (eqb (e i) 0) (off_kind (is_on fs (from + k)) (before_of k) i) ∷ []

  here_is : (k : ℕ) → (sum_to fs c base from to far k).here ≡ k
  unfolding sum_to
  here_is zero = refl
  here_is (suc k) = refl

  count_is : (k : ℕ) → (sum_to fs c base from to far k).points ≡ from + k
  unfolding sum_to
  count_is zero = omega arith
  count_is (suc k) = omega arith

  pub contour_read : (k : ℕ) → from + k ≤ to → (w : Abs) → Ready w → w.sum ≡ sum_of c from base 0 false false false false far →
      Kept z w (steps z (fed_of (contour_text xs ys fs from to k)) w) (sum_to fs c base from to far k) (placed xs ys fs from k w.points)
  unfolding contour_text placed sum_to steps fed_of
  contour_read zero h w r e = record { ready = r; said = refl; long = refl; below = λ j l. refl; sum = e; points = refl }
  contour_read (suc k) h w r e =
      let u : Abs = steps z (fed_of (contour_text xs ys fs from to k)) w in
      let front = contour_read k (omega arith) w r e in
      let here = point_read z u front.ready (get_or xs (from + k) (pos 0)) (get_or ys (from + k) (pos 0)) (is_on fs (from + k)) (before_of k) in
      let sum_is : with_point u.sum (point_at k) ≡ sum_to fs c base from to far (suc k) = ap (λ (s : Sum). with_point s (point_at k)) front.sum ∙ sum_next k (omega arith) in
      let row_is : set u.points u.sum.points (place_of u.sum (point_at k)) ≡ set (placed xs ys fs from k w.points) (from + k) (place xs ys fs (from + k) (eqb k 0)) =
      λ i. set (front.points i) ((ap (λ (s : Sum). s.points) front.sum ∙ count_is k) i) (place_is k u.sum (ap (λ (s : Sum). s.here) front.sum ∙ here_is k) i) in
      let both = kept_then front here in
      subst (λ (v : Abs). Kept z w v (sum_to fs c base from to far (suc k)) (set (placed xs ys fs from k w.points) (from + k) (place xs ys fs (from + k) (eqb k 0))))
      (sym (sealed_run (contour_sealed xs ys fs from to k) z _ w))
      (record { ready = both.ready; said = both.said; long = both.long; below = both.below; sum = both.sum ∙ sum_is; points = both.points ∙ row_is })
