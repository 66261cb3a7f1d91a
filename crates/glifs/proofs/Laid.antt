-- Contours as they lie in the scratch row, and how many places each takes when it enters. Assumes nothing.
use Prim.Native.Nat.{ℕ, zero, suc, ◌+◌, ◌-◌, ◌%◌, ◌≤◌, ◌<◌}
use native.Mathlib.Omega.{arith}
use mathlib.Core.Bool.{Bool, true, false, ◌&&◌, false≢true}
use mathlib.Core.List.{List, [], ◌∷◌, ◌++◌}
use mathlib.Core.Path.{◌≡◌, refl, sym, ap, subst, ◌∙◌}
use borrow.Author.Tests.{lt-ltb, eqb-true, eqb-false}
use lib.Dec.{eqb, ltb}
use lib.ListN.{length, take, get_or, set, length-set}
use lib.Seq.{take-suc-set}
use Rattle.gliftext.specs.Pick.{pick, both, more, sum, most}
use Rattle.glif.specs.Outline.{nowhere}
use Rattle.glyf.specs.Layout.{count_of, rising}
use Rattle.glifread.specs.Enter.{no_place, is_off, is_first, middle_of, signed_of, end_of, Rows, rows, put_at, Drawn, drawn, enter_one, enter_to, sought, seek_from}
use Rattle.glifread.specs.Enter.{Walked, walked, pen_up, enter_contour, Entering, entering, ending, enter_next, enter_up_to}
use Rattle.glifread.specs.declared.enter.Pen.{Pen}
use Rattle.gliftext.proofs.Picks.{plain_more, plain_sum}
use Rattle.glifs.proofs.Entered.{seek_to}

-- ---- ends that rise

rising_snoc : (l : List ℕ) (v : ℕ) → rising l ≡ true → count_of l ≤ v → rising (l ++ (v ∷ [])) ≡ true
unfolding rising count_of
rising_snoc [] v r h = refl
rising_snoc (e ∷ []) v r h = rw (lt-ltb e v (omega arith)) refl
rising_snoc (e ∷ f ∷ es) v r h = both_and (ltb e f) (rising (f ∷ es ++ (v ∷ []))) (and_left (ltb e f) (rising (f ∷ es)) r) (rising_snoc (f ∷ es) v (and_right (ltb e f) (rising (f ∷ es)) r) h)
  where
    both_and : (a b : Bool) → a ≡ true → b ≡ true → (a && b) ≡ true
    both_and a b e g = rw (e, g)

    and_left : (a b : Bool) → (a && b) ≡ true → a ≡ true
    and_left true b e = refl
    and_left false b e = absurd (false≢true e)

    and_right : (a b : Bool) → (a && b) ≡ true → b ≡ true
    and_right true b e = e
    and_right false b e = absurd (false≢true e)

count_snoc : (l : List ℕ) (v : ℕ) → count_of (l ++ (v ∷ [])) ≡ v + 1
unfolding count_of
count_snoc [] v = refl
count_snoc (e ∷ []) v = refl
count_snoc (e ∷ f ∷ es) v = count_snoc (f ∷ es) v

-- the first c ends rise, and say f points
pub record Risen (ends : List ℕ) (c f : ℕ) : Type 0 where
  pub rise : rising (take c ends) ≡ true
  pub count : count_of (take c ends) ≡ f

risen_next : (ends : List ℕ) (c f f' : ℕ) → c < length ends → f < f' → f' ≤ 65536 → Risen ends c f → Risen (set ends c (end_of f')) (suc c) f'
unfolding end_of
risen_next ends c f f' h l m r =
    let v : (f' - 1) % 65536 ≡ f' - 1 = omega arith in
    let front = take-suc-set ends c ((f' - 1) % 65536) h in
    let low : count_of (take c ends) ≤ (f' - 1) % 65536 = omega (arith, r.count) in
    record {
      rise = rw front (rising_snoc (take c ends) ((f' - 1) % 65536) r.rise low);
      count = rw front (count_snoc (take c ends) ((f' - 1) % 65536) ∙ omega arith);
    }

risen_none : (ends : List ℕ) → Risen ends 0 0
unfolding rising count_of
risen_none ends = record { rise = refl; count = refl }

-- how many places the row of x has
abbrev pub wide_of : Rows → ℕ
wide_of (rows xs ys fs) = length xs

put_wide : (i x y : ℕ) (off : Bool) (r : Rows) → wide_of (put_at i x y off r) ≡ wide_of r
unfolding put_at
put_wide i x y off (rows xs ys fs) = length-set xs i (signed_of x)

-- ---- a row of places

module _ (ps : List (List ℕ)) where
  abbrev pub off_at : ℕ → Bool
  off_at j = is_off (get_or (get_or ps j no_place) 2 0)

  abbrev pub first_at : ℕ → Bool
  first_at j = is_first (get_or (get_or ps j no_place) 2 0)

  -- whether the point before the one k places after `from` is off-curve
  unfoldable pub before : Bool → ℕ → ℕ → Bool
  before prev from zero = prev
  before prev from (suc k) = off_at (from + k)

  abbrev pub one : Bool → ℕ
  one t = pick t 1 0

  -- how many of k points are off-curve after an off-curve one
  unfoldable pub pairs : Bool → ℕ → ℕ → ℕ
  pairs prev from zero = 0
  pairs prev from (suc k) = pairs prev from k + one (both (before prev from k) (off_at (from + k)))

  -- the points of a contour and the middles, going round
  abbrev pub size_of : ℕ → ℕ → ℕ
  size_of from end = end - from + pairs false from (end - from) + one (both (off_at from) (off_at (end - 1)))

  -- so many contours, points and places, one after the other
  pub data Laid : ℕ → ℕ → ℕ → Type 0 where
    laid_none : Laid 0 0 0
    laid_more : {c p f : ℕ} → Laid c p f → (on end : ℕ) → p ≤ on → on < end → off_at on ≡ false → first_at p ≡ true →
        ((j : ℕ) → p < j → j < end → first_at j ≡ false) → f + size_of p end ≤ 65536 → Laid (suc c) end (f + size_of p end)

  pub laid_least : {c p f : ℕ} → Laid c p f → (c ≤ p) × (p ≤ f)
  laid_least laid_none = (omega arith, omega arith)
  laid_least (laid_more l on end a b o i n h) = let m = laid_least l in (omega arith, omega arith)

  pub laid_most : {c p f : ℕ} → Laid c p f → f ≤ 65536
  laid_most laid_none = omega arith
  laid_most (laid_more l on end a b o i n h) = h

  -- ---- counts, whatever the point before

  one_first : (x y : Bool) → one (both x y) ≡ one (both false y) + one (both x y)
  unfolding pick
  one_first true true = refl
  one_first true false = refl
  one_first false true = refl
  one_first false false = refl

  pairs_first : (prev : Bool) (from k : ℕ) → 0 < k → pairs prev from k ≡ pairs false from k + one (both prev (off_at from))
  unfolding pairs before
  pairs_first prev from zero h = absurd (omega arith)
  pairs_first prev from (suc zero) h =
      let here : from + 0 ≡ from = omega arith in
      rw here (ap (λ (v : ℕ). 0 + v) (one_first prev (off_at from)) ∙ regroup 0 (one (both false (off_at from))) (one (both prev (off_at from))))
    where
      regroup : (a b c : ℕ) → a + (b + c) ≡ a + b + c
      regroup a b c = omega arith
  pairs_first prev from (suc (suc k)) h =
      let less = pairs_first prev from (suc k) (omega arith) in
      rw less (swap (pairs false from (suc k)) (one (both prev (off_at from))) (one (both (off_at (from + k)) (off_at (from + suc k)))))
    where
      swap : (a b c : ℕ) → a + b + c ≡ a + c + b
      swap a b c = omega arith

  -- after an on-curve point nothing hangs on the point before it
  pairs_on : (prev : Bool) (from k : ℕ) → off_at from ≡ false → pairs prev from k ≡ pairs false from k
  unfolding pairs before pick
  pairs_on prev from zero e = refl
  pairs_on prev from (suc zero) e =
      let here : from + 0 ≡ from = omega arith in
      rw (here, e) (ap (λ (v : ℕ). 0 + v) (nothing prev))
    where
      nothing : (x : Bool) → one (both x false) ≡ one (both false false)
      nothing true = refl
      nothing false = refl
  pairs_on prev from (suc (suc k)) e = ap (λ (v : ℕ). v + one (both (off_at (from + k)) (off_at (from + suc k)))) (pairs_on prev from (suc k) e)

  before_split : (prev : Bool) (from k j : ℕ) → before (before prev from k) (from + k) j ≡ before prev from (k + j)
  unfolding before
  before_split prev from k zero = let same : k + 0 ≡ k = omega arith in ap (before prev from) (sym same)
  before_split prev from k (suc j) =
      let same : k + suc j ≡ suc (k + j) = omega arith in
      let place : from + k + j ≡ from + (k + j) = omega arith in
      rw (same, place)

  pairs_split : (prev : Bool) (from k j : ℕ) → pairs prev from (k + j) ≡ pairs prev from k + pairs (before prev from k) (from + k) j
  unfolding pairs
  pairs_split prev from k zero = let same : k + 0 ≡ k = omega arith in rw same (omega arith)
  pairs_split prev from k (suc j) =
      let same : k + suc j ≡ suc (k + j) = omega arith in
      let place : from + k + j ≡ from + (k + j) = omega arith in
      rw (same, place, before_split prev from k j, pairs_split prev from k j) (omega arith)

  -- ---- going round from an on-curve point

  -- the pairs of a contour, from its start and from its first on-curve point, are as many
  round : (from on end : ℕ) → from ≤ on → on < end → off_at on ≡ false →
      end - on + pairs false on (end - on) + (on - from + pairs (off_at (end - 1)) from (on - from)) ≡ size_of from end
  unfolding pairs pick
  round from on end h k e = by (eqb on from) refl
    where
      all : end - from ≡ on - from + (end - on)
      all = omega arith

      there : from + (on - from) ≡ on
      there = omega arith

      whole : pairs false from (end - from) ≡ pairs false from (on - from) + pairs false on (end - on)
      whole =
          ap (pairs false from) all
          ∙ pairs_split false from (on - from) (end - on)
          ∙ ap (λ (v : ℕ). pairs false from (on - from) + pairs (before false from (on - from)) v (end - on)) there
          ∙ ap (λ (v : ℕ). pairs false from (on - from) + v) (pairs_on (before false from (on - from)) on (end - on) e)

      swapped : (x y : Bool) → one (both x y) ≡ one (both y x)
      swapped true true = refl
      swapped true false = refl
      swapped false true = refl
      swapped false false = refl

      by : (t : Bool) → eqb on from ≡ t → end - on + pairs false on (end - on) + (on - from + pairs (off_at (end - 1)) from (on - from)) ≡ size_of from end
      by true g =
          let same : on ≡ from = eqb-true on from g in
          let none : on - from ≡ 0 = omega arith in
          let off : off_at from ≡ false = subst (λ (v : ℕ). off_at v ≡ false) same e in
          let last : one (both (off_at from) (off_at (end - 1))) ≡ 0 = rw off refl in
          let nothing : pairs (off_at (end - 1)) from (on - from) ≡ 0 = rw none refl in
          let nothing' : pairs false from (on - from) ≡ 0 = rw none refl in
          omega (arith, whole, last, nothing, nothing')
      by false g =
          let other = eqb-false on from g in
          let some : 0 < on - from = omega arith in
          omega (arith, whole, pairs_first (off_at (end - 1)) from (on - from) some, swapped (off_at (end - 1)) (off_at from))

  -- ---- entering

  -- where the pen is, whatever the rows hold
  pub record Drew (d : Drawn) (at : ℕ) (off : Bool) (wide : ℕ) : Type 0 where
    pub pen : Pen
    pub rows : Rows
    pub is : d ≡ drawn pen rows
    pub at_is : pen.at ≡ at
    pub off_is : pen.off ≡ off
    pub wide_is : wide_of rows ≡ wide

  pen_next : (between : Bool) (at : ℕ) → at + 1 + one between ≤ 65536 → more (pick between (more at) at) ≡ at + 1 + one between
  unfolding pick
  pen_next true at h = rw (plain_more at (omega arith), plain_more (suc at) (omega arith)) (omega arith)
  pen_next false at h = rw (plain_more at (omega arith)) (omega arith)

  drew_one : (p : List ℕ) (d : Drawn) (at : ℕ) (off : Bool) (wide : ℕ) → Drew d at off wide → at + 1 + one (both off (is_off (get_or p 2 0))) ≤ 65536 →
      Drew (enter_one p d) (at + 1 + one (both off (is_off (get_or p 2 0)))) (is_off (get_or p 2 0)) wide
  unfolding enter_one
  drew_one p d at off wide w h =
      let o = is_off (get_or p 2 0) in
      let pen = w.pen in
      let same : pen.at + 1 + one (both pen.off o) ≡ at + 1 + one (both off o) = λ i. w.at_is i + 1 + one (both (w.off_is i) o) in
      subst (λ (v : Drawn). Drew (enter_one p v) (at + 1 + one (both off o)) o wide) (sym w.is)
      (record {
        pen = record { at = more (pick (both pen.off o) (more pen.at) pen.at); off = o; x = get_or p 0 0; y = get_or p 1 0 };
        rows = put_at (pick (both pen.off o) (more pen.at) pen.at) (get_or p 0 0) (get_or p 1 0) o
            (put_at (pick (both pen.off o) pen.at nowhere) (middle_of pen.x (get_or p 0 0)) (middle_of pen.y (get_or p 1 0)) false w.rows);
        is = refl;
        at_is = pen_next (both pen.off o) pen.at (omega arith) ∙ same;
        off_is = refl;
        wide_is = put_wide _ _ _ _ (put_at (pick (both pen.off o) pen.at nowhere) (middle_of pen.x (get_or p 0 0)) (middle_of pen.y (get_or p 1 0)) false w.rows)
            ∙ put_wide _ _ _ _ w.rows ∙ w.wide_is;
      })

  drew_to : (from k : ℕ) (d : Drawn) (at : ℕ) (off : Bool) (wide : ℕ) → Drew d at off wide → from + k ≤ most → at + k + pairs off from k ≤ 65536 →
      Drew (enter_to ps from k d) (at + k + pairs off from k) (before off from k) wide
  unfolding enter_to pairs before
  drew_to from zero d at off wide w l h = subst (λ (v : ℕ). Drew d v off wide) (omega arith) w
  drew_to from (suc k) d at off wide w l h =
      let place : sum from k ≡ from + k = plain_sum from k (omega arith) in
      let less = drew_to from k d at off wide w (omega arith) (omega arith) in
      let next = drew_one (get_or ps (from + k) no_place) (enter_to ps from k d) (at + k + pairs off from k) (before off from k) wide less (omega arith) in
      let total : at + k + pairs off from k + 1 + one (both (before off from k) (off_at (from + k))) ≡ at + suc k + (pairs off from k + one (both (before off from k) (off_at (from + k)))) = omega arith in
      rw place (subst (λ (v : ℕ). Drew (enter_one (get_or ps (from + k) no_place) (enter_to ps from k d)) v (off_at (from + k)) wide) total next)

  pub record Walks (w : Walked) (at wide : ℕ) : Type 0 where
    pub rows : Rows
    pub wide_is : wide_of rows ≡ wide
    pub is : w ≡ walked at rows

  walks_up : (d : Drawn) (at : ℕ) (off : Bool) (wide : ℕ) → Drew d at off wide → Walks (pen_up d) at wide
  walks_up d at off wide w = record { rows = w.rows; wide_is = w.wide_is; is = ap pen_up w.is ∙ ap (λ (v : ℕ). walked v w.rows) w.at_is }

  pub last_before : (from k : ℕ) → 0 < k → (end : ℕ) → from + k ≡ end → before false from k ≡ off_at (end - 1)
  unfolding before
  last_before from zero h end e = absurd (omega arith)
  last_before from (suc k) h end e = let at : from + k ≡ end - 1 = omega arith in ap off_at at

  -- the first on-curve point of a contour
  pub record FirstOn (from end : ℕ) : Type 0 where
    pub on : ℕ
    pub low : from ≤ on
    pub high : on < end
    pub is_on_lem : off_at on ≡ false
    pub found : seek_from false ps (end - from) from ≡ on

  first_on : (d from end on : ℕ) → from + d ≡ on → on < end → off_at on ≡ false → FirstOn from end
  unfolding seek_from pick
  first_on zero from end on e h o =
      let here : from ≡ on = omega arith in
      let some : end - from ≡ suc (end - from - 1) = omega arith in
      let off : off_at from ≡ false = subst (λ (v : ℕ). off_at v ≡ false) (sym here) o in
      record { on = from; low = omega arith; high = omega arith; is_on_lem = off; found = rw (some, off) refl }
  first_on (suc d) from end on e h o = by (off_at from) refl (first_on d (from + 1) end on (omega arith) h o)
    where
      by : (t : Bool) → off_at from ≡ t → FirstOn (from + 1) end → FirstOn from end
      by true g f =
          let some : end - from ≡ suc (end - (from + 1)) = omega arith in
          let low = f.low in
          record { on = f.on; low = omega arith; high = f.high; is_on_lem = f.is_on_lem; found = rw (some, g) f.found }
      by false g f =
          let some : end - from ≡ suc (end - from - 1) = omega arith in
          record { on = from; low = omega arith; high = omega arith; is_on_lem = g; found = rw (some, g) refl }

  -- a contour takes as many places as it has points and middles
  contour_takes : (from end at : ℕ) (r : Rows) → FirstOn from end → end ≤ most →
      at + size_of from end ≤ 65536 → Walks (enter_contour ps from end (walked at r)) (at + size_of from end) (wide_of r)
  unfolding enter_contour
  contour_takes from end at r f l m =
      let on = f.on in
      let h = f.low in
      let k = f.high in
      let all = round from on end h k f.is_on_lem in
      let d₀ : Drawn = drawn (record { at = at; off = false; x = 0; y = 0 }) r in
      let first = drew_to on (end - on) d₀ at false (wide_of r) (record { pen = record { at = at; off = false; x = 0; y = 0 }; rows = r; is = refl; at_is = refl; off_is = refl; wide_is = refl }) (omega arith) (omega arith) in
      let last : before false on (end - on) ≡ off_at (end - 1) = last_before on (end - on) (omega arith) end (omega arith) in
      let second = drew_to from (on - from) (enter_to ps on (end - on) d₀) (at + (end - on) + pairs false on (end - on)) (off_at (end - 1)) (wide_of r)
      (subst (λ (o : Bool). Drew (enter_to ps on (end - on) d₀) (at + (end - on) + pairs false on (end - on)) o (wide_of r)) last first) (omega arith) (omega arith) in
      let total : at + (end - on) + pairs false on (end - on) + (on - from) + pairs (off_at (end - 1)) from (on - from) ≡ at + size_of from end = omega arith in
      rw f.found (subst (λ (v : ℕ). Walks (pen_up (enter_to ps from (on - from) (enter_to ps on (end - on) d₀))) v (wide_of r)) total (walks_up _ _ _ _ second))

  -- ---- all contours

  pub record Entered (e : Entering) (c p f n wide : ℕ) : Type 0 where
    pub ends : List ℕ
    pub rows : Rows
    pub wide_is : wide_of rows ≡ wide
    pub is : e ≡ entering (record { from = p; at = f }) ends rows
    pub long : length ends ≡ n
    pub risen : Risen ends c f

  pub laid_enters : {c p f : ℕ} → Laid c p f → (n : ℕ) → p ≤ n → n ≤ most → (p < n → first_at p ≡ true) → (E : List ℕ) (r : Rows) → c ≤ length E →
      Entered (enter_up_to ps n c (entering (record { from = 0; at = 0 }) E r)) c p f (length E) (wide_of r)
  unfolding enter_up_to enter_next pick
  laid_enters laid_none n l m next E r h = record { ends = E; rows = r; wide_is = refl; is = refl; long = refl; risen = risen_none E }
  laid_enters (laid_more {c} {p} {f} before on end a b o i none size) n l m next E r h =
      let least = laid_least before in
      let low : p ≤ 65536 = omega (arith, laid_most before) in
      let prior = laid_enters before n (omega arith) m (λ g. i) E r (omega arith) in
      let up : more p ≡ suc p = plain_more p (omega arith) in
      let many : end - suc p + (n - end) ≡ n - suc p = omega arith in
      let last : suc p + (end - suc p) ≡ end = omega arith in
      let found : seek_from true ps (n - suc p) (suc p) ≡ end =
      subst (λ (v : ℕ). seek_from true ps v (suc p) ≡ end) many
      (seek_to true ps (end - suc p) (n - end) (suc p) (λ j g. sought_none (suc p + j) (none (suc p + j) (omega arith) (omega arith)))
      (λ g. subst (λ (v : ℕ). sought true (get_or ps v no_place) ≡ true) (sym last) (sought_first end (next (omega arith)))) ∙ last) in
      let to_is : seek_from true ps (n - more p) (more p) ≡ end = subst (λ (v : ℕ). seek_from true ps (n - v) v ≡ end) (sym up) found in
      let takes = contour_takes p end f prior.rows (first_on (on - p) p end on (omega arith) b o) (omega arith) size in
      record {
        ends = set prior.ends c (end_of (f + size_of p end));
        rows = takes.rows;
        wide_is = takes.wide_is ∙ prior.wide_is;
        is =
            ap (enter_next ps n c) prior.is
            ∙ (λ j. ending c (to_is j) prior.ends (enter_contour ps p (to_is j) (walked f prior.rows)))
            ∙ ap (ending c end prior.ends) takes.is;
        long = length-set prior.ends c (end_of (f + size_of p end)) ∙ prior.long;
        risen = risen_next prior.ends c f (f + size_of p end) (omega (arith, prior.long)) (omega arith) size prior.risen;
      }
    where
      sought_none : (j : ℕ) → first_at j ≡ false → sought true (get_or ps j no_place) ≡ false
      sought_none j e = e

      sought_first : (j : ℕ) → first_at j ≡ true → sought true (get_or ps j no_place) ≡ true
      sought_first j e = e
