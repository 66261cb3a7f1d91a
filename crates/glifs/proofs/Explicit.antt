-- The points of any rows in which each contour has an on-curve point, from the scratch row into rows: their implied points written out. Assumes nothing.
use Prim.Native.Nat.{ℕ, zero, suc, ◌+◌, ◌-◌, ◌≤◌, ◌<◌}
use native.Mathlib.Omega.{arith}
use native.Mathlib.Numerals.{add-one}
use mathlib.Core.Bool.{Bool, true, false, not, cond, ◌&&◌, true≢false}
use mathlib.Core.List.{List, [], ◌∷◌, ◌++◌, append_assoc, append-nil, map-append}
use mathlib.Core.Path.{◌≡◌, refl, sym, ap, subst, ◌∙◌}
use lib.Dec.{eqb}
use lib.IntN.{ℤ, pos, negsuc, ◌+ℤ◌}
use lib.Signed.{mag}
use lib.ListN.{length, get_or, set, drop, length-append, length-map, length-drop}
use lib.Seq.{append_snoc, set-append_seam, drop-cons, take_at, drop_at, get_or-take, get_or-drop, length-take-le}
use Rattle.refusals.specs.Refusals as Refusals
use Rattle.rows.specs.Lent.{Inputs, inputs}
use Rattle.contour.specs.Points.{Points, flag_if, point_as, came_to}
use Rattle.contour.specs.Implied.{number, off_curve}
use Rattle.contour.specs.Output.{column, flags, front}
use Rattle.contour.specs.Output as Output
use Rattle.halving.specs.Cubic.{nearest}
use Rattle.explicit.specs.Explicit.{first_on, turned, both_off, only_if, after, put_in, middle, implied_point, implied_between, itself, explicit_of}
use Rattle.explicit.specs.Explicit as Explicit
use Rattle.explicit.proofs.Theorems.{halves_away}
use Rattle.glyphs.specs.Glyphs.{stretch}
use Rattle.gliftext.specs.Pick.{pick, both, more, most}
use Rattle.gliftext.proofs.Picks.{plain_more, plain_sum}
use Rattle.glif.specs.Outline.{nowhere}
use Rattle.glifread.specs.Enter.{no_place, middle_of, signed_of, flag_of, Rows, rows, put_at, Drawn, drawn, enter_as, enter_one, enter_to, sought, seek_from, walked, pen_up, enter_round, enter_contour}
use Rattle.glifread.specs.Middles.{half_away, counted}
use Rattle.glifread.specs.declared.enter.Pen.{Pen}
use Rattle.glifread.proofs.Middle.{middle_is_away, counted_is_itself}
use Rattle.glifwrite.specs.Contours.{is_on}
use Rattle.glifwrite.specs.Texts.{Small}
use Rattle.glifs.proofs.Back.{coordinate_counted}
use Rattle.glifs.proofs.Contour.{place, full_to, on_to, full_round, enters, Sound}
use Rattle.glifs.proofs.Entered.{mark_off, put_nowhere, seek_to, sought_on}

-- what comes after a point, implied points written out
abbrev pub after' : List ℤ → Points → Points
after' p qs = after implied_point itself p qs

-- ---- one list after another

unfoldable last_in : List ℤ → Points → List ℤ
last_in p [] = p
last_in p (q ∷ qs) = last_in q qs

after_append : (p : List ℤ) (qs rs : Points) → after' p (qs ++ rs) ≡ after' p qs ++ after' (last_in p qs) rs
unfolding after last_in
after_append p [] rs = refl
after_append p (q ∷ qs) rs =
    ap (λ (l : Points). implied_between p q ++ (q ∷ l)) (after_append q qs rs) ∙ sym (append_assoc (implied_between p q) (q ∷ after' q qs) (after' (last_in q qs) rs))

last_snoc : (p q : List ℤ) (qs : Points) → last_in p (qs ++ (q ∷ [])) ≡ q
unfolding last_in
last_snoc p q [] = refl
last_snoc p q (r ∷ qs) = last_snoc r q qs

after_one : (p q : List ℤ) → after' p (q ∷ []) ≡ implied_between p q ++ (q ∷ [])
unfolding after
after_one p q = refl

-- ---- rows that hold points

pub set_front : {A : Type 0} (s row : List A) (d v : A) → length s < length row → set (front s row) (length s) v ≡ front (s ++ (v ∷ [])) row
set_front s row d v h =
    let one : suc (length s) ≡ length (s ++ (v ∷ [])) = sym (length-append s (v ∷ []) ∙ add-one (length s)) in
    ap (λ (l : List _). set (s ++ l) (length s) v) (drop-cons row (length s) d h)
    ∙ set-append_seam s (get_or row (length s) d) (drop (suc (length s)) row) v
    ∙ ap (λ (n : ℕ). s ++ (v ∷ drop n row)) one
    ∙ sym (append_snoc s v (drop (length (s ++ (v ∷ []))) row))

module _ (X Y : List ℤ) (F : List ℕ) where
  abbrev pub shown : Points → Rows
  shown ps = rows (front (column 0 ps) X) (front (column 1 ps) Y) (front (flags ps) F)

  -- so many places are there
  pub record Room (n : ℕ) : Type 0 where
    pub x : n ≤ length X
    pub y : n ≤ length Y
    pub f : n ≤ length F

  column_front : (k : ℕ) (ps : Points) (q : List ℤ) (row : List ℤ) → length ps < length row → set (front (column k ps) row) (length ps) (number q k) ≡ front (column k (ps ++ (q ∷ []))) row
  column_front k ps q row h =
      let long = length-map ps (λ (p : List ℤ). number p k) in
      ap (λ (n : ℕ). set (front (column k ps) row) n (number q k)) (sym long)
      ∙ set_front (column k ps) row (pos 0) (number q k) (omega (arith, long))
      ∙ ap (λ (l : List ℤ). front l row) (sym (map-append (λ (p : List ℤ). number p k) ps (q ∷ [])))

  flags_front : (ps : Points) (q : List ℤ) → length ps < length F → set (front (flags ps) F) (length ps) (Output.flag_of q) ≡ front (flags (ps ++ (q ∷ []))) F
  flags_front ps q h =
      let long = length-map ps Output.flag_of in
      ap (λ (n : ℕ). set (front (flags ps) F) n (Output.flag_of q)) (sym long)
      ∙ set_front (flags ps) F 0 (Output.flag_of q) (omega (arith, long))
      ∙ ap (λ (l : List ℕ). front l F) (sym (map-append Output.flag_of ps (q ∷ [])))

  put_shown : (ps : Points) (q : List ℤ) → Room (suc (length ps)) →
      rows (set (front (column 0 ps) X) (length ps) (number q 0)) (set (front (column 1 ps) Y) (length ps) (number q 1)) (set (front (flags ps) F) (length ps) (Output.flag_of q)) ≡ shown (ps ++ (q ∷ []))
  put_shown ps q r = λ i. rows (column_front 0 ps q X r.x i) (column_front 1 ps q Y r.y i) (flags_front ps q r.f i)

-- ---- middles and flags

half_is : (s : ℤ) → half_away s ≡ nearest 1 s
half_is (pos n) = sym (halves_away.up n)
half_is (negsuc n) = sym (halves_away.down n)

middle_is : (a b : ℤ) → mag a < 32768 → mag b < 32768 → signed_of (middle_of (counted a) (counted b)) ≡ middle a b
middle_is a b h k = middle_is_away a b (omega arith) (omega arith) ∙ half_is (a +ℤ b)

flag_same : (off : Bool) → flag_of off ≡ Output.flag_if off
unfolding flag_of pick
flag_same true = refl
flag_same false = refl

pub flag_off : (on : Bool) (x y : ℤ) → off_curve (x ∷ y ∷ flag_if on ∷ []) ≡ not on
flag_off true x y = refl
flag_off false x y = refl

both_and : (a b : Bool) → both a b ≡ (a && b)
unfolding pick
both_and true b = refl
both_and false b = refl

both_turned : (a b : Bool) → (not a && not b) ≡ both (not b) (not a)
unfolding pick
both_turned true true = refl
both_turned true false = refl
both_turned false true = refl
both_turned false false = refl

-- ---- one point more, or two

enters_long : (t : Bool) (m q : List ℤ) (qs : Points) → length (qs ++ (only_if t m ++ (q ∷ []))) ≡ enters t (length qs)
unfolding pick
enters_long true m q qs = length-append qs (m ∷ q ∷ []) ∙ omega arith
enters_long false m q qs = length-append qs (q ∷ []) ∙ omega arith

enters_add : (t : Bool) (a b : ℕ) → enters t (a + b) ≡ a + enters t b
unfolding pick
enters_add true a b = omega arith
enters_add false a b = omega arith

enters_after : (t s : Bool) (n : ℕ) → enters t (pick s (suc n) n) ≡ pick s (suc (enters t n)) (enters t n)
unfolding pick
enters_after true true n = refl
enters_after true false n = refl
enters_after false true n = refl
enters_after false false n = refl

enters_least : (t : Bool) (n : ℕ) → n ≤ enters t n
unfolding pick
enters_least true n = omega arith
enters_least false n = omega arith

-- both coordinates of 16 bits
record SmallPoint (p : List ℤ) : Type 0 where
  x : mag (number p 0) < 32768
  y : mag (number p 1) < 32768

abbrev pen_for : ℕ → List ℤ → Pen
pen_for n p = record { at = n; off = off_curve p; x = counted (number p 0); y = counted (number p 1) }

-- before the first point the pen is up: as after this one
abbrev no_point : List ℤ
no_point = negsuc 32767 ∷ negsuc 32767 ∷ pos 1 ∷ []

no_point_lem : SmallPoint no_point
no_point_lem = record { x = omega arith; y = omega arith }

put_is : (ps : Points) → put_in implied_point itself ps ≡ after' no_point ps
unfolding put_in after
put_is [] = refl
put_is (p ∷ ps) = refl

front_long : {A : Type 0} (s row : List A) → length s ≤ length row → length (front s row) ≡ length row
front_long s row h = length-append s (drop (length s) row) ∙ omega (arith, length-drop (length s) row)

module _ (X Y : List ℤ) (F : List ℕ) (few_x : length X ≤ nowhere) (few_y : length Y ≤ nowhere) (few-f : length F ≤ nowhere) where
  pub room_less : {m n : ℕ} → m ≤ n → Room X Y F n → Room X Y F m
  room_less h r = record { x = omega (arith, h, r.x); y = omega (arith, h, r.y); f = omega (arith, h, r.f) }

  put_point_lem : (q : List ℤ) (ps : Points) → SmallPoint q → Room X Y F (suc (length ps)) →
      put_at (length ps) (counted (number q 0)) (counted (number q 1)) (off_curve q) (shown X Y F ps) ≡ shown X Y F (ps ++ (q ∷ []))
  unfolding put_at
  put_point_lem q ps s r =
      (λ i. rows (set (front (column 0 ps) X) (length ps) (counted_is_itself (number q 0) (small s.x) i)) (set (front (column 1 ps) Y) (length ps) (counted_is_itself (number q 1) (small s.y) i))
      (set (front (flags ps) F) (length ps) (flag_same (off_curve q) i)))
      ∙ put_shown X Y F ps q r
    where
      small : {n : ℕ} → n < 32768 → n ≤ 32767
      small h = omega arith

  put_middle : (p q : List ℤ) (ps : Points) → SmallPoint p → SmallPoint q → Room X Y F (suc (length ps)) →
      put_at (length ps) (middle_of (counted (number p 0)) (counted (number q 0))) (middle_of (counted (number p 1)) (counted (number q 1))) false (shown X Y F ps)
      ≡ shown X Y F (ps ++ (implied_point p q ∷ []))
  unfolding put_at
  put_middle p q ps s t r =
      (λ i. rows (set (front (column 0 ps) X) (length ps) (middle_is (number p 0) (number q 0) s.x t.x i)) (set (front (column 1 ps) Y) (length ps) (middle_is (number p 1) (number q 1) s.y t.y i))
      (set (front (flags ps) F) (length ps) (flag_same false i)))
      ∙ put_shown X Y F ps (implied_point p q) r

  nothing_put : (x y : ℕ) (ps : Points) → Room X Y F (length ps) → put_at nowhere x y false (shown X Y F ps) ≡ shown X Y F ps
  nothing_put x y ps r =
      put_nowhere x y false (front (column 0 ps) X) (front (column 1 ps) Y) (front (flags ps) F)
      (omega (arith, front_long (column 0 ps) X (omega (arith, length-map ps (λ (p : List ℤ). number p 0), r.x))))
      (omega (arith, front_long (column 1 ps) Y (omega (arith, length-map ps (λ (p : List ℤ). number p 1), r.y))))
      (omega (arith, front_long (flags ps) F (omega (arith, length-map ps Output.flag_of, r.f))))

  enter_as_lem : (t : Bool) (p q : List ℤ) (ps : Points) → SmallPoint p → SmallPoint q → Room X Y F (enters t (length ps)) →
      enter_as (counted (number q 0)) (counted (number q 1)) (off_curve q) t (pen_for (length ps) p) (shown X Y F ps)
      ≡ drawn (pen_for (enters t (length ps)) q) (shown X Y F (ps ++ (only_if t (implied_point p q) ++ (q ∷ []))))
  unfolding pick
  enter_as_lem true p q ps s t r =
      let one : more (length ps) ≡ suc (length ps) = plain_more (length ps) (omega (arith, r.x)) in
      let two : more (suc (length ps)) ≡ suc (suc (length ps)) = plain_more (suc (length ps)) (omega (arith, r.x)) in
      let m = implied_point p q in
      let long : suc (length ps) ≡ length (ps ++ (m ∷ [])) = sym (length-append ps (m ∷ []) ∙ add-one (length ps)) in
      let cx = counted (number q 0) in
      let cy = counted (number q 1) in
      let room = room_less {m = suc (length (ps ++ (m ∷ [])))} {n = suc (suc (length ps))} (omega (arith, long)) r in
      (λ i. drawn (record { at = more (one i); off = off_curve q; x = cx; y = cy }) (put_at (one i) cx cy (off_curve q) (put_middle p q ps s t (room_less {m = suc (length ps)} {n = suc (suc (length ps))} (omega arith) r) i)))
      ∙ (λ i. drawn (record { at = two i; off = off_curve q; x = cx; y = cy }) (put_at (long i) cx cy (off_curve q) (shown X Y F (ps ++ (m ∷ [])))))
      ∙ ap (drawn (pen_for (suc (suc (length ps))) q)) (put_point_lem q (ps ++ (m ∷ [])) t room ∙ ap (shown X Y F) (append_snoc ps m (q ∷ [])))
  enter_as_lem false p q ps s t r =
      let one : more (length ps) ≡ suc (length ps) = plain_more (length ps) (omega (arith, r.x)) in
      let cx = counted (number q 0) in
      let cy = counted (number q 1) in
      (λ i. drawn (record { at = one i; off = off_curve q; x = cx; y = cy }) (put_at (length ps) cx cy (off_curve q) (nothing_put (middle_of (counted (number p 0)) cx) (middle_of (counted (number p 1)) cy) ps (room_less {m = length ps} {n = suc (length ps)} (omega arith) r) i)))
      ∙ ap (drawn (pen_for (suc (length ps)) q)) (put_point_lem q ps t r)

-- ---- the points of a contour, place by place

module _ (xs ys : List ℤ) (fs : List ℕ) where
  abbrev pub pt : ℕ → List ℤ
  pt i = point_as (is_on fs i) xs ys i

  -- k of them, from a place on
  unfoldable pub pts_at : ℕ → ℕ → Points
  pts_at i zero = []
  pts_at i (suc k) = pts_at i k ++ (pt (i + k) ∷ [])

  abbrev last_at : List ℤ → ℕ → ℕ → List ℤ
  last_at p i zero = p
  last_at p i (suc k) = pt (i + k)

  last_at_lem : (p : List ℤ) (i k : ℕ) → last_in p (pts_at i k) ≡ last_at p i k
  unfolding pts_at last_in
  last_at_lem p i zero = refl
  last_at_lem p i (suc k) = last_snoc p (pt (i + k)) (pts_at i k)

  after_next : (p : List ℤ) (i k : ℕ) → after' p (pts_at i (suc k)) ≡ after' p (pts_at i k) ++ (implied_between (last_at p i k) (pt (i + k)) ++ (pt (i + k) ∷ []))
  unfolding pts_at
  after_next p i k =
      after_append p (pts_at i k) (pt (i + k) ∷ [])
      ∙ ap (λ (l : List ℤ). after' p (pts_at i k) ++ after' l (pt (i + k) ∷ [])) (last_at_lem p i k)
      ∙ ap (λ (l : Points). after' p (pts_at i k) ++ l) (after_one (last_at p i k) (pt (i + k)))

  long_next : (p : List ℤ) (i k : ℕ) → length (after' p (pts_at i (suc k))) ≡ enters (both_off (last_at p i k) (pt (i + k))) (length (after' p (pts_at i k)))
  long_next p i k =
      ap length (after_next p i k) ∙ enters_long (both_off (last_at p i k) (pt (i + k))) (implied_point (last_at p i k) (pt (i + k))) (pt (i + k)) (after' p (pts_at i k))

  both_off_lem : (i j : ℕ) → both_off (pt i) (pt j) ≡ both (not (is_on fs j)) (not (is_on fs i))
  both_off_lem i j = (λ k. flag_off (is_on fs i) (get_or xs i (pos 0)) (get_or ys i (pos 0)) k && flag_off (is_on fs j) (get_or xs j (pos 0)) (get_or ys j (pos 0)) k) ∙ both_turned (is_on fs i) (is_on fs j)

  -- as many as are counted
  full_after : (p : List ℤ) (i k : ℕ) → length (after' p (pts_at i (suc k))) ≡ pick (both_off p (pt i)) (suc (full_to fs i (suc k))) (full_to fs i (suc k))
  unfolding full_to pts_at after
  full_after p i zero =
      let here : i + 0 ≡ i = omega arith in
      long_next p i 0 ∙ ap (λ (j : ℕ). enters (both_off p (pt j)) 0) here
  full_after p i (suc k) =
      let t = both (not (is_on fs (i + suc k))) (not (is_on fs (i + k))) in
      long_next p i (suc k)
      ∙ (λ j. enters (both_off_lem (i + k) (i + suc k) j) (full_after p i k j))
      ∙ enters_after t (both_off p (pt i)) (full_to fs i (suc k))

  full_split : (from d b : ℕ) → is_on fs (from + d) ≡ true → full_to fs from (d + suc b) ≡ full_to fs from d + full_to fs (from + d) (suc b)
  unfolding full_to pick
  full_split from zero zero on = refl
  full_split from (suc d) zero on =
      let many : suc d + 1 ≡ suc (suc d) = omega arith in
      let one : suc (full_to fs from (suc d)) ≡ full_to fs from (suc d) + 1 = omega arith in
      ap (full_to fs from) many ∙ rw on one
  full_split from d (suc b) on =
      let many : d + suc (suc b) ≡ suc (suc (d + b)) = omega arith in
      let before : suc (d + b) ≡ d + suc b = omega arith in
      let at : from + suc (d + b) ≡ from + d + suc b = omega arith in
      let last : from + (d + b) ≡ from + d + b = omega arith in
      let t = both (not (is_on fs (from + d + suc b))) (not (is_on fs (from + d + b))) in
      ap (full_to fs from) many
      ∙ (λ i. enters (both (not (is_on fs (at i))) (not (is_on fs (last i)))) (full_to fs from (before i)))
      ∙ ap (enters t) (full_split from d b on)
      ∙ enters_add t (full_to fs from d) (full_to fs (from + d) (suc b))

  -- ---- entering them

  module _ (sx : Small xs) (sy : Small ys) (X Y : List ℤ) (F : List ℕ) (few_x : length X ≤ nowhere) (few_y : length Y ≤ nowhere) (few-f : length F ≤ nowhere) where
    small_pt : (i : ℕ) → SmallPoint (pt i)
    small_pt i = record { x = sx i; y = sy i }

    small_last : (p : List ℤ) (i k : ℕ) → SmallPoint p → SmallPoint (last_at p i k)
    small_last p i zero s = s
    small_last p i (suc k) s = small_pt (i + k)

    enter_one_lem : (p : List ℤ) (ps : Points) (i : ℕ) (first : Bool) → SmallPoint p → Room X Y F (enters (both_off p (pt i)) (length ps)) →
        enter_one (place xs ys fs i first) (drawn (pen_for (length ps) p) (shown X Y F ps))
        ≡ drawn (pen_for (enters (both_off p (pt i)) (length ps)) (pt i)) (shown X Y F (ps ++ (implied_between p (pt i) ++ (pt i ∷ []))))
    unfolding enter_one
    enter_one_lem p ps i first s r =
        let x_is = coordinate_counted (get_or xs i (pos 0)) (sx i) in
        let y_is = coordinate_counted (get_or ys i (pos 0)) (sy i) in
        let off_is = mark_off first (not (is_on fs i)) ∙ sym (flag_off (is_on fs i) (get_or xs i (pos 0)) (get_or ys i (pos 0))) in
        let pen = pen_for (length ps) p in
        (λ j. enter_as (x_is j) (y_is j) (off_is j) (both (off_curve p) (off_is j)) pen (shown X Y F ps))
        ∙ ap (λ (t : Bool). enter_as (counted (get_or xs i (pos 0))) (counted (get_or ys i (pos 0))) (off_curve (pt i)) t pen (shown X Y F ps)) (both_and (off_curve p) (off_curve (pt i)))
        ∙ enter_as_lem X Y F few_x few_y few-f (both_off p (pt i)) p (pt i) ps s (small_pt i) r

    module _ (row : List (List ℕ)) (first : ℕ → Bool) (i : ℕ) (p : List ℤ) (ps : Points) (s : SmallPoint p) where
      enter_run : (k : ℕ) → i + k ≤ most → ((j : ℕ) → j < k → get_or row (i + j) no_place ≡ place xs ys fs (i + j) (first j)) →
          Room X Y F (length (ps ++ after' p (pts_at i k))) →
          enter_to row i k (drawn (pen_for (length ps) p) (shown X Y F ps))
          ≡ drawn (pen_for (length (ps ++ after' p (pts_at i k))) (last_at p i k)) (shown X Y F (ps ++ after' p (pts_at i k)))
      unfolding enter_to pts_at after
      enter_run zero h at r = λ j. drawn (pen_for (length (sym (append-nil ps) j)) p) (shown X Y F (sym (append-nil ps) j))
      enter_run (suc k) h at r =
          let qs : Points = ps ++ after' p (pts_at i k) in
          let q : List ℤ = pt (i + k) in
          let l : List ℤ = last_at p i k in
          let t : Bool = both_off (last_at p i k) (pt (i + k)) in
          let is : qs ++ (implied_between l q ++ (q ∷ [])) ≡ ps ++ after' p (pts_at i (suc k)) =
          append_assoc ps (after' p (pts_at i k)) (implied_between l q ++ (q ∷ [])) ∙ ap (λ (x : Points). ps ++ x) (sym (after_next p i k)) in
          let long : enters t (length qs) ≡ length (ps ++ after' p (pts_at i (suc k))) = sym (enters_long t (implied_point l q) q qs) ∙ ap length is in
          let room : Room X Y F (enters t (length qs)) = subst (Room X Y F) (sym long) r in
          (λ j. enter_one (get_or row (plain_sum i k (omega arith) j) no_place)
          (enter_run k (omega arith) (λ v g. at v (omega arith)) (room_less X Y F few_x few_y few-f (enters_least t (length qs)) room) j))
          ∙ ap (λ (x : List ℕ). enter_one x (drawn (pen_for (length qs) l) (shown X Y F qs))) (at k (omega arith))
          ∙ enter_one_lem l qs (i + k) (first k) (small_last p i k s) room
          ∙ (λ j. drawn (pen_for (long j) q) (shown X Y F (is j)))

-- the second run is counted with the point between them, going round
round_sum : (t : Bool) (a b : ℕ) → b + pick t (suc a) a ≡ pick t (suc (a + b)) (a + b)
unfolding pick
round_sum true a b = omega arith
round_sum false a b = omega arith

round_by : (xs ys : List ℤ) (fs : List ℕ) (from m d : ℕ) → is_on fs (from + d) ≡ true →
    full_to fs (from + d) (suc m) + length (after' (pt xs ys fs (from + d + m)) (pts_at xs ys fs from d))
    ≡ pick (both (not (is_on fs from)) (not (is_on fs (from + d + m)))) (suc (full_to fs from (d + suc m))) (full_to fs from (d + suc m))
unfolding pick pts_at after
round_by xs ys fs from m zero on =
    let here : from + 0 ≡ from = omega arith in
    let first : is_on fs from ≡ true = sym (ap (is_on fs) here) ∙ on in
    let none : full_to fs (from + 0) (suc m) + 0 ≡ full_to fs (from + 0) (suc m) = omega arith in
    let many : suc m ≡ 0 + suc m = omega arith in
    none ∙ (λ i. full_to fs (here i) (many i)) ∙ rw first
round_by xs ys fs from m (suc d) on =
    let t = both (not (is_on fs from)) (not (is_on fs (from + suc d + m))) in
    ap (λ (n : ℕ). full_to fs (from + suc d) (suc m) + n)
    (full_after xs ys fs (pt xs ys fs (from + suc d + m)) from d
    ∙ ap (λ (b : Bool). pick b (suc (full_to fs from (suc d))) (full_to fs from (suc d))) (both_off_lem xs ys fs (from + suc d + m) from))
    ∙ round_sum t (full_to fs from (suc d)) (full_to fs (from + suc d) (suc m))
    ∙ ap (λ (n : ℕ). pick t (suc n) n) (sym (full_split xs ys fs from (suc d) m on))

-- ---- a stretch of the rows

stretch_at : {A : Type 0} (from end j : ℕ) (row : List A) (d : A) → j < end - from → get_or (stretch from end row) j d ≡ get_or row (from + j) d
stretch_at from end j row d h = get_or-take (end - from) (drop from row) j d h ∙ get_or-drop from row j d

stretch_long : {A : Type 0} (from end : ℕ) (row : List A) → end ≤ length row → length (stretch from end row) ≡ end - from
stretch_long from end row h = length-take-le (end - from) (drop from row) (omega (arith, length-drop from row))

-- the first on-curve point
first_before : (fs : List ℕ) (j : ℕ) → j < first_on fs → Refusals.is_on (get_or fs j 0) ≡ false
unfolding first_on
first_before [] j h = absurd (omega arith)
first_before (f ∷ fs) j h = by (Refusals.is_on f) refl j h (λ i g. first_before fs i g)
  where
    by : (t : Bool) → Refusals.is_on f ≡ t → (j : ℕ) → j < cond t 0 (first_on fs + 1) → ((i : ℕ) → i < first_on fs → Refusals.is_on (get_or fs i 0) ≡ false) →
        Refusals.is_on (get_or (f ∷ fs) j 0) ≡ false
    by true e j h later = absurd (omega arith)
    by false e zero h later = e
    by false e (suc j) h later = later j (omega arith)

first_at_lem : (fs : List ℕ) → first_on fs < length fs → Refusals.is_on (get_or fs (first_on fs) 0) ≡ true
unfolding first_on
first_at_lem [] h = absurd (omega arith)
first_at_lem (f ∷ fs) h = by (Refusals.is_on f) refl h (λ g. first_at_lem fs g)
  where
    by : (t : Bool) → Refusals.is_on f ≡ t → cond t 0 (first_on fs + 1) < suc (length fs) → (first_on fs < length fs → Refusals.is_on (get_or fs (first_on fs) 0) ≡ true) →
        Refusals.is_on (get_or (f ∷ fs) (cond t 0 (first_on fs + 1)) 0) ≡ true
    by true e h later = e
    by false e h later = rw (add-one (first_on fs)) (later (omega arith))

first_below : (fs : List ℕ) (j : ℕ) → j < length fs → Refusals.is_on (get_or fs j 0) ≡ true → first_on fs ≤ j
unfolding first_on
first_below [] j h on = absurd (omega arith)
first_below (f ∷ fs) j h on = by (Refusals.is_on f) refl j h on (λ i g o. first_below fs i g o)
  where
    by : (t : Bool) → Refusals.is_on f ≡ t → (j : ℕ) → j < suc (length fs) → Refusals.is_on (get_or (f ∷ fs) j 0) ≡ true →
        ((i : ℕ) → i < length fs → Refusals.is_on (get_or fs i 0) ≡ true → first_on fs ≤ i) → cond t 0 (first_on fs + 1) ≤ j
    by true e j h on later = omega arith
    by false e zero h on later = absurd (true≢false (sym on ∙ e))
    by false e (suc j) h on later = omega (arith, later j (omega arith) on)

-- one of the first k is on-curve
record SomeOn (fs : List ℕ) (from k : ℕ) : Type 0 where
  j : ℕ
  inside : j < k
  is : is_on fs (from + j) ≡ true

some_on : (fs : List ℕ) (from k : ℕ) → on_to fs from k ≡ true → SomeOn fs from k
unfolding on_to pick
some_on fs from zero h = absurd (true≢false (sym h))
some_on fs from (suc zero) h = let here : from ≡ from + 0 = omega arith in record { j = 0; inside = omega arith; is = sym (ap (is_on fs) here) ∙ h }
some_on fs from (suc (suc k)) h = by (on_to fs from (suc k)) refl h (λ g. some_on fs from (suc k) g)
  where
    by : (t : Bool) → on_to fs from (suc k) ≡ t → pick t true (is_on fs (from + suc k)) ≡ true → (on_to fs from (suc k) ≡ true → SomeOn fs from (suc k)) →
        SomeOn fs from (suc (suc k))
    by true e h later = let s = later e in record { j = s.j; inside = omega (arith, s.inside); is = s.is }
    by false e h later = record { j = suc k; inside = omega arith; is = h }

-- ---- a contour, with its implied points written out

module _ (xs ys : List ℤ) (fs : List ℕ) (same_x : length xs ≡ length fs) (same_y : length ys ≡ length fs) (from end : ℕ) (sound : Sound fs from end) (inside : end ≤ length fs) where
  abbrev pub contour_of : Inputs
  contour_of = inputs (stretch from end xs) (stretch from end ys) (stretch from end fs)

  abbrev d : ℕ
  d = first_on (stretch from end fs)

  abbrev on : ℕ
  on = from + d

  -- how many come after it
  abbrev m : ℕ
  m = end - on - 1

  on_is : (j : ℕ) → j < end - from → Refusals.is_on (get_or (stretch from end fs) j 0) ≡ is_on fs (from + j)
  unfolding is_on
  on_is j h = ap Refusals.is_on (stretch_at from end j fs 0 h)

  found_in : d < end - from
  found_in =
      let s = some_on fs from (end - from) sound.on in
      omega (arith, s.inside, first_below (stretch from end fs) s.j (omega (arith, s.inside, stretch_long from end fs inside)) (on_is s.j s.inside ∙ s.is))

  found_on : is_on fs on ≡ true
  found_on = sym (on_is d found_in) ∙ first_at_lem (stretch from end fs) (omega (arith, found_in, stretch_long from end fs inside))

  not_before : (j : ℕ) → j < d → is_on fs (from + j) ≡ false
  not_before j h = sym (on_is j (omega (arith, found_in))) ∙ first_before (stretch from end fs) j h

  all_in : end - from ≡ d + suc m
  all_in = omega (arith, found_in)

  -- the points as they come
  came_is : (k : ℕ) → k ≤ end - from → came_to (stretch from end xs) (stretch from end ys) (stretch from end fs) k ≡ pts_at xs ys fs from k
  unfolding came_to pts_at
  came_is zero h = refl
  came_is (suc k) h =
      λ i. came_is k (omega arith) i
      ++ ((stretch_at from end k xs (pos 0) (omega arith) i ∷ stretch_at from end k ys (pos 0) (omega arith) i ∷ flag_if (on_is k (omega arith) i) ∷ []) ∷ [])

  pts_long : (i k : ℕ) → length (pts_at xs ys fs i k) ≡ k
  unfolding pts_at
  pts_long i zero = refl
  pts_long i (suc k) = length-append (pts_at xs ys fs i k) _ ∙ ap (λ (n : ℕ). n + 1) (pts_long i k) ∙ add-one k

  pts_split : (i a b : ℕ) → pts_at xs ys fs i (a + b) ≡ pts_at xs ys fs i a ++ pts_at xs ys fs (i + a) b
  unfolding pts_at
  pts_split i a zero = let none : a + 0 ≡ a = omega arith in ap (pts_at xs ys fs i) none ∙ sym (append-nil (pts_at xs ys fs i a))
  pts_split i a (suc b) =
      let many : a + suc b ≡ suc (a + b) = omega arith in
      let at : i + (a + b) ≡ i + a + b = omega arith in
      ap (pts_at xs ys fs i) many
      ∙ (λ k. pts_split i a b k ++ (pt xs ys fs (at k) ∷ []))
      ∙ append_assoc (pts_at xs ys fs i a) (pts_at xs ys fs (i + a) b) (pt xs ys fs (i + a + b) ∷ [])

  turned_is : turned d (Explicit.points_of contour_of) ≡ pts_at xs ys fs on (suc m) ++ pts_at xs ys fs from d
  turned_is =
      let long : length (stretch from end fs) ≡ d + suc m = stretch_long from end fs inside ∙ all_in in
      ap (λ (k : ℕ). turned d (came_to (stretch from end xs) (stretch from end ys) (stretch from end fs) k)) long
      ∙ ap (turned d) (came_is (d + suc m) (omega (arith, all_in)) ∙ pts_split from d (suc m))
      ∙ (λ i. drop_at (pts_at xs ys fs from d) (pts_at xs ys fs on (suc m)) d (pts_long from d) i ++ take_at (pts_at xs ys fs from d) (pts_at xs ys fs on (suc m)) d (pts_long from d) i)

  -- in two runs: from the first on-curve point, and up to it
  pub explicit_is : explicit_of contour_of ≡ after' no_point (pts_at xs ys fs on (suc m)) ++ after' (pt xs ys fs (on + m)) (pts_at xs ys fs from d)
  explicit_is =
      ap (put_in implied_point itself) turned_is
      ∙ put_is (pts_at xs ys fs on (suc m) ++ pts_at xs ys fs from d)
      ∙ after_append no_point (pts_at xs ys fs on (suc m)) (pts_at xs ys fs from d)
      ∙ ap (λ (l : List ℤ). after' no_point (pts_at xs ys fs on (suc m)) ++ after' l (pts_at xs ys fs from d)) (last_at_lem xs ys fs no_point on (suc m))

  -- as many as the reader counts
  pub explicit_long : length (explicit_of contour_of) ≡ full_round fs from end
  unfolding full_round pick
  explicit_long =
      let last : on + m ≡ end - 1 = omega (arith, found_in) in
      ap length explicit_is ∙ length-append (after' no_point (pts_at xs ys fs on (suc m))) (after' (pt xs ys fs (on + m)) (pts_at xs ys fs from d))
      ∙ ap (λ (n : ℕ). n + length (after' (pt xs ys fs (on + m)) (pts_at xs ys fs from d))) (full_after xs ys fs no_point on m)
      ∙ round_by xs ys fs from m d found_on
      ∙ (λ i. pick (both (not (is_on fs from)) (not (is_on fs (last i)))) (suc (full_to fs from (sym all_in i))) (full_to fs from (sym all_in i)))

  -- ---- entering it

  module _ (sx : Small xs) (sy : Small ys) (X Y : List ℤ) (F : List ℕ) (few_x : length X ≤ nowhere) (few_y : length Y ≤ nowhere) (few-f : length F ≤ nowhere) (few : end ≤ most)
      (row : List (List ℕ)) (at : (j : ℕ) → from + j < end → get_or row (from + j) no_place ≡ place xs ys fs (from + j) (eqb j 0)) where
    seek : seek_from false row (end - from) from ≡ on
    seek =
        subst (λ (n : ℕ). seek_from false row n from ≡ on) (sym all_in)
        (seek_to false row d (suc m) from (λ j h. ap (sought false) (at j (omega (arith, found_in))) ∙ sought_on xs ys fs (from + j) (eqb j 0) ∙ not_before j h)
        (λ h. ap (sought false) (at d (omega (arith, found_in))) ∙ sought_on xs ys fs (from + d) (eqb d 0) ∙ found_on))

    pub enter_contour_lem : (ps : Points) → Room X Y F (length (ps ++ explicit_of contour_of)) →
        enter_contour row from end (walked (length ps) (shown X Y F ps)) ≡ walked (length (ps ++ explicit_of contour_of)) (shown X Y F (ps ++ explicit_of contour_of))
    unfolding enter_contour
    enter_contour_lem ps r =
        let back : on - from ≡ d = omega arith in
        let rest : end - on ≡ suc m = omega (arith, found_in) in
        let one : Points = after' no_point (pts_at xs ys fs on (suc m)) in
        let two : Points = after' (pt xs ys fs (on + m)) (pts_at xs ys fs from d) in
        let qs : Points = ps ++ after' no_point (pts_at xs ys fs on (suc m)) in
        let all : qs ++ two ≡ ps ++ explicit_of contour_of = append_assoc ps one two ∙ ap (λ (l : Points). ps ++ l) (sym explicit_is) in
        let room : Room X Y F (length (qs ++ two)) = subst (λ (l : Points). Room X Y F (length l)) (sym all) r in
        let less : Room X Y F (length qs) = room_less X Y F few_x few_y few-f (omega (arith, length-append qs two)) room in
        ap (λ (o : ℕ). enter_round row from end o (walked (length ps) (shown X Y F ps))) seek
        ∙ (λ i. pen_up (enter_to row from (back i) (enter_to row on (rest i) (drawn (pen_for (length ps) no_point) (shown X Y F ps)))))
        ∙ ap (λ (x : Drawn). pen_up (enter_to row from d x))
        (enter_run xs ys fs sx sy X Y F few_x few_y few-f row (λ j. eqb (d + j) 0) on no_point ps no_point_lem (suc m) (omega (arith, found_in)) (λ j h. at_on j (omega (arith, found_in))) less)
        ∙ ap pen_up
        (enter_run xs ys fs sx sy X Y F few_x few_y few-f row (λ j. eqb j 0) from (pt xs ys fs (on + m)) qs (small_pt xs ys fs sx sy X Y F few_x few_y few-f (on + m)) d (omega (arith, found_in))
        (λ j h. at j (omega (arith, found_in))) room)
        ∙ (λ i. walked (length (all i)) (shown X Y F (all i)))
      where
        at_on : (j : ℕ) → on + j < end → get_or row (on + j) no_place ≡ place xs ys fs (on + j) (eqb (d + j) 0)
        at_on j h =
            let here : from + (d + j) ≡ on + j = omega arith in
            subst (λ (v : ℕ). get_or row v no_place ≡ place xs ys fs v (eqb (d + j) 0)) here (at (d + j) (omega arith))
