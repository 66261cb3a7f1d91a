-- The points of the rows, from the scratch row into rows: as they were. Assumes nothing.
use Prim.Native.Nat.{ℕ, zero, suc, ◌+◌, ◌-◌, ◌%◌, ◌≤◌, ◌<◌}
use native.Mathlib.Omega.{arith}
use native.Mathlib.Numerals.{add-one}
use mathlib.Core.Bool.{Bool, true, false, not}
use mathlib.Core.List.{List}
use mathlib.Core.Path.{◌≡◌, refl, sym, ap, subst, ◌∙◌}
use borrow.Author.Tests.{lt-ltb, le-leb, ne_eqb, ltb-true, ltb-false, eqb-true, eqb-false}
use lib.Dec.{eqb, ltb}
use lib.IntN.{ℤ, pos}
use lib.ListN.{length, get_or, set, length-set}
use lib.Seq.{get_or-set_same, get_or-set_other, set_out, paste, paste-zero, paste-suc, length-paste}
use Rattle.lines.specs.Text as Text
use Rattle.gliftext.specs.Pick.{pick, both, more, sum, most}
use Rattle.gliftext.specs.Words.{no_number}
use Rattle.glif.specs.Outline.{offset_of, mark_of, nowhere}
use Rattle.glifread.specs.Enter.{no_place, is_off, is_first, signed_of, flag_of, end_of, Rows, rows, put_at, drawn, enter_as, enter_one, enter_to, sought, seek_from}
use Rattle.glifread.specs.Enter.{walked, pen_up, enter_contour, entering, enter_next, enter_up_to, filled, enter_all, ending, at_end}
use Rattle.glifread.specs.declared.enter.Pen.{Pen}
use Rattle.glifread.specs.declared.enter.Walk.{Walk}
use Rattle.glifwrite.specs.Contours.{is_on, end_at, start_of}
use Rattle.gliftext.proofs.Picks.{plain_more, plain_sum, not-not}
use Rattle.glifs.specs.Back.{number_in}
use Rattle.glifs.proofs.Back.{coordinate_reads_back}
use Rattle.glifwrite.specs.Texts.{Small}
use Rattle.glifs.proofs.Contour.{place, placed, Plain}
use Rattle.glifs.proofs.Whole.{row_to, start_next, start_first}

-- ---- the scratch row

module _ (xs ys : List ℤ) (fs : List ℕ) (from : ℕ) (ps : List (List ℕ)) where
  placed_long : (k : ℕ) → length (placed xs ys fs from k ps) ≡ length ps
  unfolding placed
  placed_long zero = refl
  placed_long (suc k) = length-set (placed xs ys fs from k ps) (from + k) _ ∙ placed_long k

  placed_in : (d : List ℕ) (k j : ℕ) → j < k → from + k ≤ length ps → get_or (placed xs ys fs from k ps) (from + j) d ≡ place xs ys fs (from + j) (eqb j 0)
  unfolding placed
  placed_in d zero j h l = absurd (omega arith)
  placed_in d (suc k) j h l = by (eqb j k) refl (λ g. placed_in d k j g (omega arith))
    where
      by : (t : Bool) → eqb j k ≡ t → (j < k → get_or (placed xs ys fs from k ps) (from + j) d ≡ place xs ys fs (from + j) (eqb j 0)) → get_or (set (placed xs ys fs from k ps) (from + k) (place xs ys fs (from + k) (eqb k 0))) (from + j) d ≡ place xs ys fs (from + j) (eqb j 0)
      by true e before = rw (eqb-true j k e) (get_or-set_same (placed xs ys fs from k ps) (from + k) _ d (omega (arith, placed_long k)))
      by false e before =
          let other = eqb-false j k e in
          get_or-set_other (placed xs ys fs from k ps) (from + k) (from + j) _ d (λ g. omega arith) ∙ before (omega arith)

  placed_out : (d : List ℕ) (k i : ℕ) → i < from → get_or (placed xs ys fs from k ps) i d ≡ get_or ps i d
  unfolding placed
  placed_out d zero i h = refl
  placed_out d (suc k) i h = get_or-set_other (placed xs ys fs from k ps) (from + k) i _ d (λ g. omega arith) ∙ placed_out d k i h

-- contours follow each other
pub ordered : (ends : List ℕ) → ((k : ℕ) → k < length ends → start_of ends k < end_at ends k) → (k c : ℕ) → c < k → k ≤ length ends → end_at ends c ≤ start_of ends k
ordered ends some zero c h l = absurd (omega arith)
ordered ends some (suc k) c h l = by (eqb c k) refl (λ g. ordered ends some k c g (omega arith))
  where
    by : (t : Bool) → eqb c k ≡ t → (c < k → end_at ends c ≤ start_of ends k) → end_at ends c ≤ start_of ends (suc k)
    by true e before = rw (eqb-true c k e, start_next ends k) (omega arith)
    by false e before =
        let other = eqb-false c k e in
        omega (arith, start_next ends k, before (omega arith), some k l)

module _ (bs ends : List ℕ) (xs ys : List ℤ) (fs : List ℕ) (row : List (List ℕ)) (some : (k : ℕ) → k < length ends → start_of ends k < end_at ends k) where
  row_long : (k : ℕ) → length (row_to bs ends xs ys fs row k) ≡ length row
  unfolding row_to
  row_long zero = refl
  row_long (suc k) = placed_long xs ys fs (start_of ends k) (row_to bs ends xs ys fs row k) _ ∙ row_long k

  pub row_in : (d : List ℕ) (k c j : ℕ) → k ≤ length ends → start_of ends k ≤ length row → c < k → start_of ends c + j < end_at ends c →
      get_or (row_to bs ends xs ys fs row k) (start_of ends c + j) d ≡ place xs ys fs (start_of ends c + j) (eqb j 0)
  unfolding row_to
  row_in d zero c j l r h i = absurd (omega arith)
  row_in d (suc k) c j l r h i =
      let more = some k l in
      by (eqb c k) refl (λ g. row_in d k c j (omega arith) (omega (arith, start_next ends k)) g i)
    where
      by : (t : Bool) → eqb c k ≡ t → (c < k → get_or (row_to bs ends xs ys fs row k) (start_of ends c + j) d ≡ place xs ys fs (start_of ends c + j) (eqb j 0)) →
          get_or (placed xs ys fs (start_of ends k) (end_at ends k - start_of ends k) (row_to bs ends xs ys fs row k)) (start_of ends c + j) d ≡ place xs ys fs (start_of ends c + j) (eqb j 0)
      by true e before =
          let is = eqb-true c k e in
          let room : start_of ends k + j < end_at ends k = subst (λ (v : ℕ). start_of ends v + j < end_at ends v) is i in
          subst (λ (v : ℕ). get_or (placed xs ys fs (start_of ends k) (end_at ends k - start_of ends k) (row_to bs ends xs ys fs row k)) (start_of ends v + j) d ≡ place xs ys fs (start_of ends v + j) (eqb j 0)) (sym is)
          (placed_in xs ys fs (start_of ends k) (row_to bs ends xs ys fs row k) d (end_at ends k - start_of ends k) j (omega arith) (omega (arith, row_long k, start_next ends k, some k l)))
      by false e before =
          let other = eqb-false c k e in
          let below : end_at ends c ≤ start_of ends k = ordered ends some k c (omega arith) (omega arith) in
          placed_out xs ys fs (start_of ends k) (row_to bs ends xs ys fs row k) d (end_at ends k - start_of ends k) (start_of ends c + j) (omega arith) ∙ before (omega arith)

-- ---- marks

pub mark_off : (first off : Bool) → is_off (mark_of first off) ≡ off
unfolding is_off mark_of pick
mark_off true true = refl
mark_off true false = refl
mark_off false true = refl
mark_off false false = refl

pub mark_first : (first off : Bool) → is_first (mark_of first off) ≡ first
unfolding is_first mark_of pick
mark_first true true = refl
mark_first true false = refl
mark_first false true = refl
mark_first false false = refl

pub sought_first : (xs ys : List ℤ) (fs : List ℕ) (i : ℕ) (first : Bool) → sought true (place xs ys fs i first) ≡ first
unfolding pick
sought_first xs ys fs i first = mark_first first (not (is_on fs i))

pub sought_on : (xs ys : List ℤ) (fs : List ℕ) (i : ℕ) (first : Bool) → sought false (place xs ys fs i first) ≡ is_on fs i
unfolding pick
sought_on xs ys fs i first = ap not (mark_off first (not (is_on fs i))) ∙ not-not (is_on fs i)

-- the first place that is looked for
pub seek_to : (first : Bool) (ps : List (List ℕ)) (d r i : ℕ) → ((j : ℕ) → j < d → sought first (get_or ps (i + j) no_place) ≡ false) →
    (0 < r → sought first (get_or ps (i + d) no_place) ≡ true) → seek_from first ps (d + r) i ≡ i + d
unfolding seek_from pick
seek_to first ps zero zero i before at = omega arith
seek_to first ps zero (suc r) i before at =
    let n : 0 + suc r ≡ suc r = omega arith in
    let here : i + 0 ≡ i = omega arith in
    rw (n, here) (rw (subst (λ (v : ℕ). sought first (get_or ps v no_place) ≡ true) here (at (omega arith))) refl)
seek_to first ps (suc d) r i before at =
    let n : suc d + r ≡ suc (d + r) = omega arith in
    let here : i + 0 ≡ i = omega arith in
    let last : i + suc d ≡ i + 1 + d = omega arith in
    rw (n, last) (rw (subst (λ (v : ℕ). sought first (get_or ps v no_place) ≡ false) here (before 0 (omega arith)))
    (seek_to first ps d r (i + 1) (λ j h. let on : i + suc j ≡ i + 1 + j = omega arith in subst (λ (v : ℕ). sought first (get_or ps v no_place) ≡ false) on (before (suc j) (omega arith)))
    (λ h. subst (λ (v : ℕ). sought first (get_or ps v no_place) ≡ true) last (at h))))

-- ---- where contours begin and end in it

module _ (bs ends : List ℕ) (xs ys : List ℤ) (fs : List ℕ) (row : List (List ℕ)) (some : (k : ℕ) → k < length ends → start_of ends k < end_at ends k)
    (all : start_of ends (length ends) ≡ length fs) (room : length fs ≤ length row) where
  abbrev pub laid_row : List (List ℕ)
  laid_row = row_to bs ends xs ys fs row (length ends)

  pub within : (c : ℕ) → c < length ends → end_at ends c ≤ length fs
  within c h = omega (arith, all, ordered ends some (length ends) c h (omega arith))

  pub at : (c : ℕ) → c < length ends → (j : ℕ) → start_of ends c + j < end_at ends c → get_or laid_row (start_of ends c + j) no_place ≡ place xs ys fs (start_of ends c + j) (eqb j 0)
  at c h j i = row_in bs ends xs ys fs row some no_place (length ends) c j (omega arith) (omega (arith, all)) h i

  -- a contour's places after the first are not the first of any, and the one after them is, if there is one
  pub seeks : (c : ℕ) → c < length ends → seek_from true laid_row (length fs - suc (start_of ends c)) (suc (start_of ends c)) ≡ end_at ends c
  seeks c h =
      let from = start_of ends c in
      let points = some c h in
      let inside = within c h in
      let d : ℕ = end_at ends c - suc (start_of ends c) in
      let many : end_at ends c - suc (start_of ends c) + (length fs - end_at ends c) ≡ length fs - suc (start_of ends c) = omega arith in
      let last : suc (start_of ends c) + (end_at ends c - suc (start_of ends c)) ≡ end_at ends c = omega arith in
      subst (λ (v : ℕ). seek_from true laid_row v (suc (start_of ends c)) ≡ end_at ends c) many
      (seek_to true laid_row (end_at ends c - suc (start_of ends c)) (length fs - end_at ends c) (suc (start_of ends c))
      (λ j g.
      let here : start_of ends c + suc j ≡ suc (start_of ends c) + j = omega arith in
      subst (λ (v : ℕ). sought true (get_or laid_row v no_place) ≡ false) here
      (ap (sought true) (at c h (suc j) (omega arith)) ∙ sought_first xs ys fs (start_of ends c + suc j) (eqb (suc j) 0) ∙ ne_eqb (suc j) 0 (λ e. omega arith)))
      (λ g. subst (λ (v : ℕ). sought true (get_or laid_row v no_place) ≡ true) (sym last) (next g (ltb (suc c) (length ends)) refl)) ∙ last)
    where
      next : 0 < length fs - end_at ends c → (t : Bool) → ltb (suc c) (length ends) ≡ t → sought true (get_or laid_row (end_at ends c) no_place) ≡ true
      next g true e =
          let more = ltb-true (suc c) (length ends) e in
          let here : start_of ends (suc c) + 0 ≡ end_at ends c = omega (arith, start_next ends c) in
          subst (λ (v : ℕ). sought true (get_or laid_row v no_place) ≡ true) here
          (ap (sought true) (at (suc c) more 0 (omega (arith, some (suc c) more))) ∙ sought_first xs ys fs (start_of ends (suc c) + 0) (eqb 0 0))
      next g false e =
          let none = ltb-false (suc c) (length ends) e in
          let is : suc c ≡ length ends = omega arith in
          absurd (omega (arith, all, start_next ends c, ap (start_of ends) is))

-- ---- ends

pub end_at_lem : (ends : List ℕ) (c : ℕ) → c < length ends → get_or ends c 0 < 65536 → end_at ends c ≡ suc (get_or ends c 0)
unfolding end_at sum pick
end_at_lem ends c h w = rw (lt-ltb c (length ends) h, le-leb (get_or ends c 0) 18446744073709551614 (omega arith)) (add-one (get_or ends c 0))

end_back : (ends : List ℕ) (c : ℕ) → c < length ends → get_or ends c 0 < 65536 → end_of (end_at ends c) ≡ get_or ends c 0
unfolding end_of
end_back ends c h w = rw (end_at_lem ends c h w) (omega arith)

-- ---- one point

flag_of_lem : (v : ℕ) → v < 2 → flag_of (not (eqb (v % 2) 1)) ≡ v
unfolding flag_of pick
flag_of_lem zero h = refl
flag_of_lem (suc zero) h = refl
flag_of_lem (suc (suc v)) h = absurd (omega arith)

pub put_nowhere : (x y : ℕ) (off : Bool) (X Y : List ℤ) (F : List ℕ) → length X ≤ nowhere → length Y ≤ nowhere → length F ≤ nowhere → put_at nowhere x y off (rows X Y F) ≡ rows X Y F
unfolding put_at
put_nowhere x y off X Y F a b c = λ i. rows (set_out X nowhere (signed_of x) a i) (set_out Y nowhere (signed_of y) b i) (set_out F nowhere (flag_of off) c i)

enter_plain : (x y : ℕ) (off : Bool) (pen : Pen) (X Y : List ℤ) (F : List ℕ) → length X ≤ nowhere → length Y ≤ nowhere → length F ≤ nowhere → pen.at < most →
    enter_as x y off false pen (rows X Y F)
    ≡ drawn (record { at = suc pen.at; off = off; x = x; y = y }) (rows (set X pen.at (signed_of x)) (set Y pen.at (signed_of y)) (set F pen.at (flag_of off)))
unfolding pick put_at
enter_plain x y off pen X Y F a b c h = rw (plain_more pen.at h) (ap (λ (r : Rows). drawn (record { at = suc pen.at; off = off; x = x; y = y }) (put_at pen.at x y off r)) (put_nowhere _ _ false X Y F a b c))

module _ (xs ys : List ℤ) (fs : List ℕ) (sx : Small xs) (sy : Small ys) (bits : (i : ℕ) → get_or fs i 0 < 2) where
  abbrev x_of : ℕ → ℕ
  x_of i = offset_of (number_in (Text.signed_of (get_or xs i (pos 0))) no_number)

  abbrev y_of : ℕ → ℕ
  y_of i = offset_of (number_in (Text.signed_of (get_or ys i (pos 0))) no_number)

  flag_is : (i : ℕ) → flag_of (not (is_on fs i)) ≡ get_or fs i 0
  unfolding is_on
  flag_is i = flag_of_lem (get_or fs i 0) (bits i)

  enter_point : (i : ℕ) (first : Bool) (pen : Pen) (X Y : List ℤ) (F : List ℕ) → both pen.off (not (is_on fs i)) ≡ false →
      length X ≤ nowhere → length Y ≤ nowhere → length F ≤ nowhere → pen.at < most →
      enter_one (place xs ys fs i first) (drawn pen (rows X Y F))
      ≡ drawn (record { at = suc pen.at; off = not (is_on fs i); x = x_of i; y = y_of i })
      (rows (set X pen.at (get_or xs i (pos 0))) (set Y pen.at (get_or ys i (pos 0))) (set F pen.at (get_or fs i 0)))
  unfolding enter_one
  enter_point i first pen X Y F apart a b c h =
      (λ j. enter_as (x_of i) (y_of i) (mark_off first (not (is_on fs i)) j) (both pen.off (mark_off first (not (is_on fs i)) j)) pen (rows X Y F))
      ∙ ap (λ (t : Bool). enter_as (x_of i) (y_of i) (not (is_on fs i)) t pen (rows X Y F)) apart
      ∙ enter_plain (x_of i) (y_of i) (not (is_on fs i)) pen X Y F a b c h
      ∙ (λ j. drawn (record { at = suc pen.at; off = not (is_on fs i); x = x_of i; y = y_of i })
      (rows (set X pen.at ((coordinate_reads_back (get_or xs i (pos 0)) (sx i)).same j)) (set Y pen.at ((coordinate_reads_back (get_or ys i (pos 0)) (sy i)).same j)) (set F pen.at (flag_is i j))))

  -- ---- a contour

  module _ (X Y : List ℤ) (F : List ℕ) (room-x : length xs ≤ length X) (room-y : length ys ≤ length Y) (room-f : length fs ≤ length F)
      (few_x : length X ≤ nowhere) (few_y : length Y ≤ nowhere) (few-f : length F ≤ nowhere) (same_x : length xs ≡ length fs) (same_y : length ys ≡ length fs) where
    -- the first m points
    abbrev pub filled_to : ℕ → Rows
    filled_to m = rows (paste X 0 xs m) (paste Y 0 ys m) (paste F 0 fs m)

    fill_next : (m : ℕ) → m < length fs →
        rows (set (paste X 0 xs m) m (get_or xs m (pos 0))) (set (paste Y 0 ys m) m (get_or ys m (pos 0))) (set (paste F 0 fs m) m (get_or fs m 0)) ≡ filled_to (suc m)
    fill_next m h =
        let at : 0 + m ≡ m = omega arith in
        let px = subst (λ (v : ℕ). set (paste X 0 xs m) v (get_or xs m (pos 0)) ≡ paste X 0 xs (suc m)) at (paste-suc X 0 xs m (pos 0) (omega arith) (omega arith)) in
        let py = subst (λ (v : ℕ). set (paste Y 0 ys m) v (get_or ys m (pos 0)) ≡ paste Y 0 ys (suc m)) at (paste-suc Y 0 ys m (pos 0) (omega arith) (omega arith)) in
        let pf = subst (λ (v : ℕ). set (paste F 0 fs m) v (get_or fs m 0) ≡ paste F 0 fs (suc m)) at (paste-suc F 0 fs m 0 (omega arith) (omega arith)) in
        λ i. rows (px i) (py i) (pf i)

    long_x : (m : ℕ) → m ≤ length fs → length (paste X 0 xs m) ≤ nowhere
    long_x m h = omega (arith, length-paste X 0 xs m (omega arith) (omega arith))

    long_y : (m : ℕ) → m ≤ length fs → length (paste Y 0 ys m) ≤ nowhere
    long_y m h = omega (arith, length-paste Y 0 ys m (omega arith) (omega arith))

    long_f : (m : ℕ) → m ≤ length fs → length (paste F 0 fs m) ≤ nowhere
    long_f m h = omega (arith, length-paste F 0 fs m (omega arith) (omega arith))

    module _ (ps : List (List ℕ)) (from end : ℕ) (sound : Plain fs from end) (inside : end ≤ length fs)
        (at : (j : ℕ) → from + j < end → get_or ps (from + j) no_place ≡ place xs ys fs (from + j) (eqb j 0)) where
      unfoldable pen_at : ℕ → Pen
      pen_at zero = record { at = from; off = false; x = 0; y = 0 }
      pen_at (suc k) = record { at = suc (from + k); off = not (is_on fs (from + k)); x = x_of (from + k); y = y_of (from + k) }

      pen_at_lem : (k : ℕ) → (pen_at k).at ≡ from + k
      unfolding pen_at
      pen_at_lem zero = omega arith
      pen_at_lem (suc k) = omega arith

      few : end ≤ most
      few = omega arith

      pen_apart : (k : ℕ) → from + k < end → both (pen_at k).off (not (is_on fs (from + k))) ≡ false
      unfolding pen_at pick
      pen_apart zero h = refl
      pen_apart (suc k) h = by (is_on fs (from + k)) refl
        where
          by : (t : Bool) → is_on fs (from + k) ≡ t → both (not t) (not (is_on fs (from + suc k))) ≡ false
          by true e = refl
          by false e =
              let next : suc (from + k) ≡ from + suc k = omega arith in
              ap not (subst (λ (v : ℕ). is_on fs v ≡ true) next (sound.apart (from + k) (omega arith) (omega arith) e))

      pen_next : (k : ℕ) → record { at = suc (pen_at k).at; off = not (is_on fs (from + k)); x = x_of (from + k); y = y_of (from + k) } ≡ pen_at (suc k)
      unfolding pen_at
      pen_next k = λ i. record { at = suc (pen_at_lem k i); off = not (is_on fs (from + k)); x = x_of (from + k); y = y_of (from + k) }

      contour_points : (k : ℕ) → from + k ≤ end → enter_to ps from k (drawn (pen_at 0) (filled_to from)) ≡ drawn (pen_at k) (filled_to (from + k))
      unfolding enter_to
      contour_points zero h = let here : from ≡ from + 0 = omega arith in ap (λ (m : ℕ). drawn (pen_at 0) (filled_to m)) here
      contour_points (suc k) h =
          let next : suc (from + k) ≡ from + suc k = omega arith in
          let X' = paste X 0 xs (from + k) in
          let Y' = paste Y 0 ys (from + k) in
          let F' = paste F 0 fs (from + k) in
          (λ i. enter_one (get_or ps (plain_sum from k (omega arith) i) no_place) (contour_points k (omega arith) i))
          ∙ ap (λ (p : List ℕ). enter_one p (drawn (pen_at k) (filled_to (from + k)))) (at k (omega arith))
          ∙ enter_point (from + k) (eqb k 0) (pen_at k) X' Y' F' (pen_apart k (omega arith)) (long_x (from + k) (omega arith)) (long_y (from + k) (omega arith)) (long_f (from + k) (omega arith)) (omega (arith, pen_at_lem k))
          ∙ (λ i. drawn (pen_next k i) (rows (set X' (pen_at_lem k i) (get_or xs (from + k) (pos 0))) (set Y' (pen_at_lem k i) (get_or ys (from + k) (pos 0))) (set F' (pen_at_lem k i) (get_or fs (from + k) 0))))
          ∙ ap (drawn (pen_at (suc k))) (fill_next (from + k) (omega arith) ∙ ap filled_to next)

      on_first_lem : seek_from false ps (end - from) from ≡ from
      on_first_lem =
          let none : 0 + (end - from) ≡ end - from = omega arith in
          let here : from + 0 ≡ from = omega arith in
          subst (λ (v : ℕ). seek_from false ps v from ≡ from) none
          (seek_to false ps 0 (end - from) from (λ j h. absurd (omega arith)) (λ h. found) ∙ here)
        where
          found : sought false (get_or ps (from + 0) no_place) ≡ true
          found =
              let here : from + 0 ≡ from = omega arith in
              ap (sought false) (at 0 (omega (arith, sound.some))) ∙ sought_on xs ys fs (from + 0) true ∙ ap (is_on fs) here ∙ sound.first

      contour_enters : enter_contour ps from end (walked from (filled_to from)) ≡ walked end (filled_to end)
      unfolding enter_contour enter_to pen_at
      contour_enters =
          let all : from + (end - from) ≡ end = omega (arith, sound.some) in
          let none : from - from ≡ 0 = omega arith in
          rw (on_first_lem, none) (ap pen_up (contour_points (end - from) (omega (arith, sound.some))) ∙ (λ i. walked ((pen_at_lem (end - from) ∙ all) i) (filled_to (all i))))

    -- ---- all contours

    module _ (bs ends E : List ℕ) (row : List (List ℕ)) (sound : (k : ℕ) → k < length ends → Plain fs (start_of ends k) (end_at ends k))
        (wide : (k : ℕ) → get_or ends k 0 < 65536) (all : start_of ends (length ends) ≡ length fs) (room : length fs ≤ length row) (room-e : length ends ≤ length E) where
      abbrev ps : List (List ℕ)
      ps = row_to bs ends xs ys fs row (length ends)

      some_in : (k : ℕ) → k < length ends → start_of ends k < end_at ends k
      some_in k h = (sound k h).some

      end_is : (c : ℕ) → c < length ends → end_of (end_at ends c) ≡ get_or ends c 0
      end_is c h = end_back ends c h (wide c)

      abbrev stand : ℕ → Walk
      stand k = record { from = start_of ends k; at = start_of ends k }

      contours : (k : ℕ) → k ≤ length ends →
          enter_up_to ps (length fs) k (entering (record { from = 0; at = 0 }) E (filled_to 0)) ≡ entering (stand k) (paste E 0 ends k) (filled_to (start_of ends k))
      unfolding enter_up_to enter_next
      contours zero h =
          let first = sym (start_first ends) in
          λ i. entering (record { from = first i; at = first i }) (paste-zero E 0 ends i) (filled_to (first i))
      contours (suc k) h =
          let some = (sound k h).some in
          let inside = within bs ends xs ys fs row some_in all room k h in
          let one : more (start_of ends k) ≡ suc (start_of ends k) = plain_more (start_of ends k) (omega arith) in
          let next = sym (start_next ends k) in
          let at0 : 0 + k ≡ k = omega arith in
          let to_is : seek_from true ps (length fs - more (start_of ends k)) (more (start_of ends k)) ≡ end_at ends k =
          subst (λ (v : ℕ). seek_from true ps (length fs - v) v ≡ end_at ends k) (sym one) (seeks bs ends xs ys fs row some_in all room k h) in
          let ends_are : set (paste E 0 ends k) k (end_of (end_at ends k)) ≡ paste E 0 ends (suc k) =
          ap (set (paste E 0 ends k) k) (end_is k h)
          ∙ subst (λ (v : ℕ). set (paste E 0 ends k) v (get_or ends k 0) ≡ paste E 0 ends (suc k)) at0 (paste-suc E 0 ends k 0 (omega arith) (omega arith)) in
          ap (enter_next ps (length fs) k) (contours k (omega arith))
          ∙ (λ i. ending k (to_is i) (paste E 0 ends k) (enter_contour ps (start_of ends k) (to_is i) (walked (start_of ends k) (filled_to (start_of ends k)))))
          ∙ ap (ending k (end_at ends k) (paste E 0 ends k)) (contour_enters ps (start_of ends k) (end_at ends k) (sound k h) inside (at bs ends xs ys fs row some_in all room k h))
          ∙ (λ i. entering (record { from = next i; at = next i }) (ends_are i) (filled_to (next i)))

      pub enters_all : enter_all ps (length fs) (length ends) (filled E (rows X Y F)) ≡ filled (paste E 0 ends (length ends)) (filled_to (length fs))
      unfolding enter_all
      enters_all =
          (λ i. at_end (enter_up_to ps (length fs) (length ends) (entering (record { from = 0; at = 0 }) E (rows (paste-zero X 0 xs i) (paste-zero Y 0 ys i) (paste-zero F 0 fs i)))))
          ∙ ap at_end (contours (length ends) (omega arith))
          ∙ ap (λ (m : ℕ). filled (paste E 0 ends (length ends)) (filled_to m)) all
