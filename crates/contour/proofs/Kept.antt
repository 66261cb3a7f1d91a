-- The statements of specs/Kept, by the walk of proofs/Walk. Assumes nothing.
use Rattle.std.specs.Prelude.{Ok}
use Prim.Native.Nat.{ℕ, suc, ◌+◌, ◌-◌, ◌%◌, ◌<◌}
use mathlib.Core.Bool.{Bool, true, false, not, cond, ◌&&◌, false≢true}
use mathlib.Core.List.{List, [], ◌∷◌, ◌++◌, append-nil, append_assoc, map, reverse, reverse-cons, reverse-reverse}
use mathlib.Core.Path.{◌≡◌, refl, sym, ap, subst, ◌∙◌}
use native.Mathlib.Nat.{mod-eq_of_lt, mod_self}
use native.Mathlib.Omega.{arith}
use lib.IntN.{ℤ, pos}
use lib.ListN.{length, get_or, take, drop, length-append, length-drop}
use lib.Seq.{append_snoc, drop-drop, get_or-drop, get_or_at}
use Rattle.refusals.specs.Refusals.{judged}
use Rattle.rows.specs.Sixteen.{SixteenBits}
use Rattle.geometry.specs.declared.Quad.{Quad}
use Rattle.geometry.specs.Geometry.{is_line}
use Rattle.outline.specs.declared.Seg.{Seg}
use Rattle.outline.specs.declared.Seg.TheVariants.{Line}
use Rattle.outline.specs.Segments.{point}
use Rattle.refusals.specs.Accepted.{Accepted, accepted}
use Rattle.contour.specs.Points.{Points, on_point, off_point, points_of, piece_if, piece_points, pieces_points, start_point, unchanged_in, around}
use Rattle.contour.specs.Implied.{number, off_curve, midway_in, is_implied, implied_at, drop_from, finished}
use Rattle.contour.specs.Standard.{AtMidpoint}
use Rattle.contour.specs.Unchanged.{as_uploaded}
use Rattle.contour.specs.Kept.{StartStays, StartsOn, OnBothEnds, StartsOnCurve, CratesRows, doubled, between, traced, outline_of, WholeOutlineKept, WholeMidpoint, Round, ends, goes, point_at, Next, NoHalfPoint, NotBothOff, WholeIfOff, Neighbours, AllWhole}
use Rattle.contour.proofs.Dropping.{keeps}
use Rattle.contour.proofs.Standard.{implied_at_midpoint}
use Rattle.contour.proofs.Came.{in_crates_mode, in_closed_mode_lem}
use Rattle.contour.proofs.Walk.{next_or, walk, from_one, from_none}

-- closed mode's walk
abbrev implied : List ℤ → List ℤ → List ℤ → Bool
implied = is_implied true

-- ---- the start

first_stays : (ps : Points) → take 1 (finished true ps) ≡ take 1 ps
first_stays [] = ap (take 1) (from_none implied)
first_stays (s ∷ ts) = ap (take 1) (from_one implied s ts)

uploaded_first : (xs ys : List ℤ) (fs : List ℕ) → Accepted xs ys fs → take 1 (as_uploaded xs ys fs) ≡ start_point xs ys ∷ []
unfolding as_uploaded
uploaded_first xs ys [] ok = absurd (omega (arith, ok.some))
uploaded_first [] ys (f ∷ fs) ok = absurd (omega (arith, ok.same_x))
uploaded_first (x ∷ xs) [] (f ∷ fs) ok = absurd (omega (arith, ok.same_y))
uploaded_first (x ∷ xs) (y ∷ ys) (f ∷ fs) ok = rw ok.first

pub start_stays : StartStays
start_stays = record {
  row = first_stays;
  corner = λ s ps. first_stays (around s ps);
  unchanged = λ xs ys fs h.
      first_stays (unchanged_in xs ys fs true) ∙ ap (take 1) (in_closed_mode_lem xs ys fs h).row ∙ uploaded_first xs ys fs (accepted xs ys fs h);
}

-- the first point of a row is that of its first place
first_of : (ps : Points) {p : List ℤ} → take 1 ps ≡ p ∷ [] → get_or ps 0 [] ≡ p
first_of [] {p} e = ap (λ (qs : Points). get_or qs 0 []) e
first_of (q ∷ ps) {p} e = ap (λ (qs : Points). get_or qs 0 []) e

closed_starts : (ps : Points) → StartsOn ps → StartsOn (finished true ps)
closed_starts [] h = absurd (false≢true (sym h))
closed_starts (s ∷ ts) h = ap (λ (qs : Points). off_curve (get_or qs 0 [])) (from_one implied s ts) ∙ h

-- in the crate's mode the place before place 0, going round, is on-curve
second_off : (a c : Bool) (b : Bool) → b ≡ false → (a && (b && c)) ≡ false
second_off true c b e = rw e
second_off false c b e = refl

beside_on : (closed : Bool) (prev this next : List ℤ) → off_curve prev ≡ false → is_implied closed prev this next ≡ false
unfolding is_implied
beside_on closed prev this next e =
    second_off (not (off_curve this)) (off_curve next && (midway_in closed 0 prev this next && midway_in closed 1 prev this next)) (off_curve prev) e

first_kept : (ps : Points) → off_curve (get_or ps (length ps - 1) []) ≡ false → implied_at (is_implied false) ps 0 ≡ false
unfolding implied_at
first_kept ps e = beside_on false (get_or ps (length ps - 1) []) (get_or ps 0 []) (get_or ps ((0 + 1) % length ps) []) e

row_starts : (ps : Points) → OnBothEnds ps → StartsOn (drop_from (is_implied false) ps 0)
row_starts [] h = absurd (false≢true (sym h.first))
row_starts (s ∷ ts) h =
    ap (λ (qs : Points). off_curve (get_or qs 0 []))
    (keeps (is_implied false) (s ∷ ts) 0 (omega arith) (first_kept (s ∷ ts) h.last) ∙ from_one (is_implied false) s ts)
    ∙ h.first

-- reversed, the first is the last
last_first : (ps : Points) → get_or (reverse ps) (length (reverse ps) - 1) [] ≡ get_or ps 0 []
last_first [] = refl
last_first (s ∷ ts) =
    let place : length (reverse ts) ≡ length (reverse ts ++ (s ∷ [])) - 1 = omega (arith, length-append (reverse ts) (s ∷ [])) in
    ap (λ (qs : Points). get_or qs (length qs - 1) []) (reverse-cons s ts)
    ∙ get_or_at (reverse ts) s [] [] (length (reverse ts ++ (s ∷ [])) - 1) place

first_last : (ps : Points) → get_or (reverse ps) 0 [] ≡ get_or ps (length ps - 1) []
first_last ps = sym (last_first (reverse ps)) ∙ ap (λ (qs : Points). get_or qs (length qs - 1) []) (reverse-reverse ps)

crates_starts : (ps : Points) → OnBothEnds ps → StartsOn (finished false ps)
crates_starts ps h = row_starts (reverse ps) (record { first = ap off_curve (first_last ps) ∙ h.last; last = ap off_curve (last_first ps) ∙ h.first })

-- a last point more
last_is : (ps : Points) (p : List ℤ) → get_or (ps ++ (p ∷ [])) (length (ps ++ (p ∷ [])) - 1) [] ≡ p
last_is ps p = get_or_at ps p [] [] (length (ps ++ (p ∷ [])) - 1) (omega (arith, length-append ps (p ∷ [])))

first_on : (ps qs : Points) → StartsOn ps → StartsOn (ps ++ qs)
first_on [] qs h = absurd (false≢true (sym h))
first_on (p ∷ ps) qs h = h

one_more : (ps : Points) (p : List ℤ) → off_curve p ≡ false → StartsOn ps → OnBothEnds (ps ++ (p ∷ []))
one_more ps p on h = record { first = first_on ps (p ∷ []) h; last = ap off_curve (last_is ps p) ∙ on }

two_more : (ps : Points) (p q : List ℤ) → off_curve q ≡ false → StartsOn ps → OnBothEnds (ps ++ (p ∷ q ∷ []))
two_more ps p q on h = subst OnBothEnds (append_snoc ps p (q ∷ [])) (one_more (ps ++ (p ∷ [])) q on (first_on ps (p ∷ []) h))

seg_more : (ps : Points) (g : Seg) → OnBothEnds ps → OnBothEnds (ps ++ points_of g)
seg_more ps (Line x0 y0 x1 y1) h = one_more ps (on_point (point x1 y1)) refl h.first
seg_more ps (Seg.Quad x0 y0 x1 y1 x2 y2) h = two_more ps (off_point (point x1 y1)) (on_point (point x2 y2)) refl h.first

piece_more : (ps : Points) (q : Quad) (b : Bool) → StartsOn ps → OnBothEnds (ps ++ piece_if b q)
piece_more ps q true h = one_more ps (on_point q.p2) refl h
piece_more ps q false h = two_more ps (off_point q.p1) (on_point q.p2) refl h

pieces_more : (ps : Points) (qs : List Quad) → OnBothEnds ps → OnBothEnds (ps ++ pieces_points qs)
unfolding pieces_points
pieces_more ps [] h = subst OnBothEnds (sym (append-nil ps)) h
pieces_more ps (q ∷ qs) h =
    subst OnBothEnds (append_assoc ps (piece_points q) (pieces_points qs)) (pieces_more (ps ++ piece_points q) qs (piece_more ps q (is_line q) h.first))

pub crates_rows : CratesRows
crates_rows = record { start = λ xs ys. record { first = refl; last = refl }; segment = seg_more; pieces = pieces_more }

pub starts_on_curve : StartsOnCurve
starts_on_curve = record { closed = closed_starts; crates = crates_starts; unchanged = unchanged }
  where
    unchanged : (xs ys : List ℤ) (fs : List ℕ) → SixteenBits xs → SixteenBits ys → judged xs ys fs ≡ Ok tt → (b : Bool) → StartsOn (finished b (unchanged_in xs ys fs b))
    unchanged xs ys fs sx sy h true =
        let first = first_of (as_uploaded xs ys fs) (uploaded_first xs ys fs (accepted xs ys fs h)) in
        closed_starts (unchanged_in xs ys fs true) (ap (λ (qs : Points). off_curve (get_or qs 0 [])) (in_closed_mode_lem xs ys fs h).row ∙ ap off_curve first)
    unchanged xs ys fs sx sy h false =
        let first = first_of (as_uploaded xs ys fs) (uploaded_first xs ys fs (accepted xs ys fs h)) in
        let is = (in_crates_mode xs ys fs sx sy h).row in
        crates_starts (unchanged_in xs ys fs false) (subst OnBothEnds (sym is) (one_more (as_uploaded xs ys fs) (start_point xs ys) refl (ap off_curve first)))

-- ---- the outline

-- a point that goes is the midpoint of its neighbours, which are off-curve: what is between these is the point
gone_last : (b t q : List ℤ) → AtMidpoint b t q → between b q ≡ between b t ++ (doubled t ∷ between t q)
gone_last b t q m = rw (m.prev_off, m.next_off, m.on) (λ k. (sym m.x k ∷ sym m.y k ∷ pos 1 ∷ []) ∷ [])

gone_one : (b t q : List ℤ) (rest : Points) → AtMidpoint b t q → between b q ++ rest ≡ between b t ++ (doubled t ∷ (between t q ++ rest))
gone_one b t q rest m = rw (m.prev_off, m.next_off, m.on) (λ k. (sym m.x k ∷ sym m.y k ∷ pos 1 ∷ []) ∷ rest)

-- one point less
gone_traced : (s b t : List ℤ) (ts : Points) → AtMidpoint b t (next_or s ts) → traced s b ts ≡ traced s b (t ∷ ts)
unfolding traced
gone_traced s b t [] m = ap (λ (ps : Points). doubled b ∷ ps) (gone_last b t s m)
gone_traced s b t (q ∷ qs) m = ap (λ (ps : Points). doubled b ∷ ps) (gone_one b t q (traced s q qs) m)

kept_traced : (s b t : List ℤ) (qs ts : Points) → traced s t qs ≡ traced s t ts → traced s b (t ∷ qs) ≡ traced s b (t ∷ ts)
unfolding traced
kept_traced s b t qs ts e = ap (λ (ps : Points). doubled b ∷ (between b t ++ ps)) e

walk_traced : (s : List ℤ) (ts : Points) (b : List ℤ) → traced s b (walk implied s b ts) ≡ traced s b ts
unfolding walk
walk_traced s [] b = refl
walk_traced s (t ∷ ts) b = by (implied b t (next_or s ts)) refl (walk_traced s ts b) (walk_traced s ts t)
  where
    by : (c : Bool) → implied b t (next_or s ts) ≡ c → traced s b (walk implied s b ts) ≡ traced s b ts → traced s t (walk implied s t ts) ≡ traced s t ts →
        traced s b (cond c (walk implied s b ts) (t ∷ walk implied s t ts)) ≡ traced s b (t ∷ ts)
    by true e gone kept = gone ∙ gone_traced s b t ts (implied_at_midpoint b t (next_or s ts) e)
    by false e gone kept = kept_traced s b t (walk implied s t ts) ts kept

pub whole_outline_kept : WholeOutlineKept
unfolding outline_of
whole_outline_kept [] = ap outline_of (from_none implied)
whole_outline_kept (s ∷ ts) = ap outline_of (from_one implied s ts) ∙ walk_traced s ts s

-- ---- whole units

midpoint_whole : {b t q : List ℤ} → AtMidpoint b t q → WholeMidpoint b q
midpoint_whole {b} {t} {q} m = record { half_x = number t 0; half_y = number t 1; x = m.x; y = m.y }

-- an off-curve point stays
off_stays : (prev this next : List ℤ) → off_curve this ≡ true → implied prev this next ≡ false
unfolding is_implied
off_stays prev this next e = rw e

walk_off : (s b q : List ℤ) (qs : Points) → off_curve q ≡ true → walk implied s b (q ∷ qs) ≡ q ∷ walk implied s q qs
unfolding walk
walk_off s b q qs e = rw (off_stays b q (next_or s qs) e)

-- ---- where no two off-curve points were neighbours

apart_whole : {p q : List ℤ} → NotBothOff p q → WholeIfOff p q
apart_whole r = record { whole = λ o o'. absurd (r.apart o o') }

gone_whole : {b t q : List ℤ} → AtMidpoint b t q → WholeIfOff b q
gone_whole m = record { whole = λ o o'. midpoint_whole m }

one_whole : (s b t : List ℤ) (c : Bool) → implied b t s ≡ c → NotBothOff b t → NotBothOff t s → Round WholeIfOff s b (cond c [] (t ∷ []))
one_whole s b t true e r r' = ends (gone_whole (implied_at_midpoint b t s e))
one_whole s b t false e r r' = goes (apart_whole r) (ends (apart_whole r'))

two_whole : (s b t q : List ℤ) (qs : Points) (c : Bool) → implied b t q ≡ c → NotBothOff b t → Round WholeIfOff s t (walk implied s t (q ∷ qs)) →
    Round WholeIfOff s q (walk implied s q qs) →
    Round WholeIfOff s b (cond c (walk implied s b (q ∷ qs)) (t ∷ walk implied s t (q ∷ qs)))
two_whole s b t q qs true e r kept gone =
    let m = implied_at_midpoint b t q e in
    subst (λ (ps : Points). Round WholeIfOff s b ps) (sym (walk_off s b q qs m.next_off)) (goes (gone_whole m) gone)
two_whole s b t q qs false e r kept gone = goes (apart_whole r) kept

walk_whole : (s b : List ℤ) (ts : Points) → Round NotBothOff s b ts → Round WholeIfOff s b (walk implied s b ts)
unfolding walk
walk_whole s b [] (ends r) = ends (apart_whole r)
walk_whole s b (t ∷ []) (goes r (ends r')) = one_whole s b t (implied b t s) refl r r'
walk_whole s b (t ∷ q ∷ qs) (goes r (goes r' rest)) =
    two_whole s b t q qs (implied b t q) refl r (walk_whole s t (q ∷ qs) (goes r' rest)) (walk_whole s q qs rest)

pub all_whole : AllWhole
all_whole [] h = subst (Neighbours WholeIfOff) (sym (from_none implied)) tt
all_whole (s ∷ ts) h = subst (Neighbours WholeIfOff) (sym (from_one implied s ts)) (walk_whole s s ts h)

-- ---- the places that stay

module _ (ps : Points) where
  point_at_lem : (k : ℕ) → k < length ps → point_at ps k ≡ get_or ps k []
  point_at_lem k h = ap (λ (j : ℕ). get_or ps j []) (mod-eq_of_lt h)

  -- the points from place k on
  here : (k : ℕ) {t : List ℤ} {ts : Points} → drop k ps ≡ t ∷ ts → (k < length ps) × (point_at ps k ≡ t) × (drop (k + 1) ps ≡ ts)
  here k {t} {ts} e =
      let left : length ps - k ≡ suc (length ts) = sym (length-drop k ps) ∙ ap length e in
      let inside : k < length ps = omega (arith, left) in
      let at : k ≡ k + 0 = omega arith in
      let is : get_or ps k [] ≡ t = ap (λ (j : ℕ). get_or ps j []) at ∙ sym (get_or-drop k ps 0 []) ∙ ap (λ (qs : Points). get_or qs 0 []) e in
      (inside, point_at_lem k inside ∙ is, sym (drop-drop 1 k ps) ∙ ap (drop 1) e)

  next_one : (j : ℕ) → Next ps j (j + 1)
  next_one j = record { later = omega arith; whole = λ n o o'. absurd (n refl) }

  -- over one that goes
  next_two : (j k : ℕ) {b t q : List ℤ} → j < k → point_at ps j ≡ b → point_at ps k ≡ q → AtMidpoint b t q → Next ps j k
  next_two j k {b} {t} {q} h e e' m = record {
    later = h;
    whole = λ n o o'. subst (λ (p : List ℤ). WholeMidpoint p (point_at ps k)) (sym e) (subst (WholeMidpoint b) (sym e') (midpoint_whole m));
  }

  -- after place j, whose point is b and stays
  record Found (s b : List ℤ) (j : ℕ) (qs : Points) : Type 0 where
    places : List ℕ
    are : qs ≡ map (point_at ps) places
    round : Round (Next ps) (length ps) j places

  module _ (s : List ℤ) (first : point_at ps (length ps) ≡ s) where
    found_none : (b : List ℤ) (j : ℕ) → drop (j + 1) ps ≡ [] → j < length ps → Found s b j []
    found_none b j e h =
        let left : length ps - (j + 1) ≡ 0 = sym (length-drop (j + 1) ps) ∙ ap length e in
        let end : j + 1 ≡ length ps = omega (arith, left, h) in
        record { places = []; are = refl; round = ends (subst (Next ps j) end (next_one j)) }

    found_kept : (b t : List ℤ) (j : ℕ) (qs : Points) → point_at ps (j + 1) ≡ t → Found s t (j + 1) qs → Found s b j (t ∷ qs)
    found_kept b t j qs e f = record { places = (j + 1) ∷ f.places; are = λ k. sym e k ∷ f.are k; round = goes (next_one j) f.round }

    found_one : (b t : List ℤ) (j : ℕ) (c : Bool) → implied b t s ≡ c → point_at ps j ≡ b → drop (j + 1) ps ≡ t ∷ [] → Found s b j (cond c [] (t ∷ []))
    found_one b t j true e is d =
        let at = here (j + 1) d in
        record { places = []; are = refl; round = ends (next_two j (length ps) (omega (arith, at.0)) is first (implied_at_midpoint b t s e)) }
    found_one b t j false e is d =
        let at = here (j + 1) d in
        found_kept b t j [] at.1 (found_none t (j + 1) at.2 at.0)

    found_two : (b t q : List ℤ) (qs : Points) (j : ℕ) (c : Bool) → implied b t q ≡ c → point_at ps j ≡ b → drop (j + 1) ps ≡ t ∷ q ∷ qs →
        Found s t (j + 1) (walk implied s t (q ∷ qs)) →
        Found s q (j + 1 + 1) (walk implied s q qs) →
        Found s b j (cond c (walk implied s b (q ∷ qs)) (t ∷ walk implied s t (q ∷ qs)))
    found_two b t q qs j true e is d kept gone =
        let m = implied_at_midpoint b t q e in
        let at = here (j + 1 + 1) (here (j + 1) d).2 in
        record {
          places = (j + 1 + 1) ∷ gone.places;
          are = walk_off s b q qs m.next_off ∙ (λ k. sym at.1 k ∷ gone.are k);
          round = goes (next_two j (j + 1 + 1) (omega arith) is at.1 m) gone.round;
        }
    found_two b t q qs j false e is d kept gone = found_kept b t j (walk implied s t (q ∷ qs)) (here (j + 1) d).1 kept

    found : (ts : Points) (b : List ℤ) (j : ℕ) → j < length ps → point_at ps j ≡ b → drop (j + 1) ps ≡ ts → Found s b j (walk implied s b ts)
    unfolding walk
    found [] b j h is d = found_none b j d h
    found (t ∷ []) b j h is d = found_one b t j (implied b t s) refl is d
    found (t ∷ q ∷ qs) b j h is d =
        let at = here (j + 1) d in
        let then = here (j + 1 + 1) at.2 in
        found_two b t q qs j (implied b t q) refl is d
        (found (q ∷ qs) t (j + 1) at.0 at.1 at.2)
        (found qs q (j + 1 + 1) then.0 then.1 then.2)

pub no_half_point : NoHalfPoint
no_half_point [] h = absurd (omega arith)
no_half_point (s ∷ ts) h =
    let ps : Points = s ∷ ts in
    let first : point_at ps 0 ≡ s = point_at_lem ps 0 h in
    let again : point_at ps (length ps) ≡ s = ap (λ (j : ℕ). get_or ps j []) (mod_self (length ps)) in
    let f = found ps s again ts s 0 h first refl in
    record { places = f.places; are = from_one implied s ts ∙ (λ k. sym first k ∷ f.are k); round = f.round }
