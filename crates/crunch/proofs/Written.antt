-- The statements of specs/Written, along the runs by proofs/Along. Assumes nothing.
use Rattle.std.specs.Prelude.{Ok, Err}
use Prim.Native.Nat.{ℕ, zero, suc, ◌-◌}
use native.Mathlib.Omega.{arith}
use borrow.Author.Tests.{eq-eqb, ne_eqb}
use mathlib.Core.Bool.{Bool, true, false, not, ◌&&◌, ◌||◌, true≢false, false≢true}
use mathlib.Core.List.{List, [], ◌∷◌, ◌++◌}
use mathlib.Core.Path.{◌≡◌, refl, sym, ap, subst, ◌∙◌}
use lib.IntN.{ℤ, pos}
use lib.ListN.{length, get_or, take, length-map}
use Rattle.geometry.specs.declared.Quad.{Quad}
use Rattle.geometry.specs.Geometry.{is_line}
use Rattle.refusals.specs.Refusals.{is_on, both_off, too_many, first_off, off_neighbours, refuse, judged}
use Rattle.refusals.specs.Accepted.{Accepted, accepted}
use Rattle.refusals.specs.declared.refusal.Refusal.TheVariants.{UnevenRows, NoPoint, TooManyPoints, StartsOffCurve, OffCurveNeighbours}
use Rattle.refusals.specs.declared.refusal.Refusal.{Refusal}
use Rattle.outline.specs.declared.Seg.{Seg}
use Rattle.outline.specs.Segments.{count_of, start_of, seg_at}
use Rattle.runs.specs.Runs.{corner_list, going_round, stops_of}
use Rattle.settings.specs.declared.Settings.{Settings}
use Rattle.optimize.specs.declared.Tally.{Tally}
use Rattle.edition.specs.Edition.{Rooms}
use Rattle.contour.specs.Points.{Points, points_of, piece_if, pieces_points, flag_if, point_as, points_to, unchanged_in, around}
use Rattle.contour.specs.Implied.{number, off_curve, finished}
use Rattle.contour.specs.Output.{column, flag_of, flags}
use Rattle.contour.specs.Unchanged.{as_uploaded}
use Rattle.contour.specs.Kept.{StartsOn, OnBothEnds, outline_of, Round, ends, goes, NotBothOff, WholeIfOff, Neighbours}
use Rattle.contour.proofs.Came.{in_closed_mode_lem}
use Rattle.contour.proofs.Kept.{start_stays, starts_on_curve, crates_rows, whole_outline_kept, all_whole}
use Rattle.assembly.specs.Assembly.{State, ended, crunch_runs}
use Rattle.crunch.specs.Crunch.{crunched, crunch_of}
use Rattle.crunch.specs.Written.{StartsAt, the_corner, FirstPoint, judged_again, CanComeBack, ComesBack, OutlineIs, OutlineWritten, NoHalfPointWritten}
use Rattle.crunch.specs.Written as Written
use Rattle.crunch.proofs.Along.{Along, Carried, runs_along, From, stopped, went, came_fine, came_from, comes_out}

-- ---- closed mode: where it starts

-- the first stop is the first corner
first_stop : (segments : ℕ) (corners : List ℕ) {a : ℕ} {stops : List ℕ} → going_round segments corners ≡ a ∷ stops → (rest : List ℕ) × (corners ≡ a ∷ rest)
first_stop segments [] e = absurd cc
first_stop segments (b ∷ corners) e = (corners, ap (λ (c : ℕ). c ∷ corners) cc)

module _ (xs ys : List ℤ) (fs : List ℕ) where
  -- the row starts at the point of the first corner
  record FromCorner (row : Points) : Type 0 where
    a : ℕ
    corners : List ℕ
    are : corner_list xs ys fs ≡ a ∷ corners
    first : take 1 row ≡ point_as true xs ys (start_of fs a) ∷ []

  from_corner : (a : ℕ) (stops : List ℕ) (ps : Points) → stops_of true xs ys fs ≡ a ∷ stops → FromCorner (around (point_as true xs ys (start_of fs a)) ps)
  unfolding stops_of
  from_corner a stops ps e =
      let corner = first_stop (count_of fs) (corner_list xs ys fs) e in
      record { a = a; corners = corner.0; are = corner.1; first = refl }

  -- the upload itself, where the work ended
  abbrev Itself : Points → Type 0
  Itself row = row ≡ unchanged_in xs ys fs true

  carries_start : Carried (λ ps. Unit {0}) FromCorner Itself xs ys fs true
  carries_start = record {
    begins = (tt, λ a stops ps e h. from_corner a stops ps e);
    segment = λ ps g h. tt;
    pieces = λ ps qs h. tt;
    unchanged = refl;
  }

  module _ (fine : judged xs ys fs ≡ Ok tt) (ps : Points) where
    starts_by : {s : State} → Along FromCorner Itself s → From true ps s → StartsAt xs ys fs ps s
    starts_by (Along.goes {ps = row} h) (went is) = the_corner h.a h.corners h.are (ap (take 1) (sym is) ∙ start_stays.row row ∙ h.first)
    starts_by (Along.ends {ps = row} {tally = t} h) (stopped is) =
        let first = ap (take 1) (sym is ∙ ap (finished true) h) ∙ start_stays.unchanged xs ys fs fine in
        subst (λ (q : Points). StartsAt xs ys fs ps (ended q t)) (sym h) (Written.StartsAt.the_upload first)
    starts_by (Along.no k) x3 = elim x3 [ ]

    outline_by : {s : State} → Along FromCorner Itself s → From true ps s → OutlineIs xs ys fs ps s
    outline_by (Along.goes {ps = row} h) (went is) = Written.the_pieces (ap outline_of (sym is) ∙ whole_outline_kept row)
    outline_by (Along.ends {ps = row} h) (stopped is) =
        Written.OutlineIs.the_upload (ap outline_of (sym is) ∙ whole_outline_kept row ∙ ap outline_of (h ∙ (in_closed_mode_lem xs ys fs fine).row))
    outline_by (Along.no k) x3 = elim x3 [ ]

-- by what is carried in closed mode
module _ (rooms : Rooms) (room : ℕ) (settings : Settings) (xs ys : List ℤ) (fs : List ℕ) (ps : Points) (tally : Tally)
    (came : crunch_of rooms room settings xs ys fs ≡ crunched ps tally) (closed : settings.closed ≡ true) where
  start_along : Along (FromCorner xs ys fs) (Itself xs ys fs) (crunch_runs rooms settings xs ys fs)
  start_along =
      runs_along (λ ps. Unit {0}) (FromCorner xs ys fs) (Itself xs ys fs) xs ys fs rooms settings
      (subst (Carried (λ ps. Unit {0}) (FromCorner xs ys fs) (Itself xs ys fs) xs ys fs) (sym closed) (carries_start xs ys fs))

  came_closed : From true ps (crunch_runs rooms settings xs ys fs)
  came_closed = subst (λ (b : Bool). From b ps (crunch_runs rooms settings xs ys fs)) closed (came_from rooms room settings xs ys fs came)

  starts_at : StartsAt xs ys fs ps (crunch_runs rooms settings xs ys fs)
  starts_at = starts_by xs ys fs (came_fine rooms room settings xs ys fs came) ps start_along came_closed

  outline_is : OutlineIs xs ys fs ps (crunch_runs rooms settings xs ys fs)
  outline_is = outline_by xs ys fs (came_fine rooms room settings xs ys fs came) ps start_along came_closed

pub first_point : FirstPoint
first_point rooms room settings xs ys fs ps tally e closed = starts_at rooms room settings xs ys fs ps tally e closed

pub outline_written : OutlineWritten
outline_written rooms room settings xs ys fs ps tally e closed = outline_is rooms room settings xs ys fs ps tally e closed

-- ---- it starts on-curve

-- so it does in closed mode
first_on : (ps : Points) {p : List ℤ} → take 1 ps ≡ p ∷ [] → off_curve p ≡ false → StartsOn ps
first_on [] {p} e on = absurd (let z : 0 ≡ 1 = ap length e in omega arith)
first_on (q ∷ ps) {p} e on = ap (λ (qs : Points). off_curve (get_or qs 0 [])) e ∙ on

corner_on : {xs ys : List ℤ} {fs : List ℕ} {ps : Points} {s : State} → StartsAt xs ys fs ps s → StartsOn ps
corner_on {ps = ps} (the_corner a corners are first) = first_on ps first refl
corner_on {ps = ps} (Written.StartsAt.the_upload first) = first_on ps first refl

-- and in the crate's mode, whose rows are on-curve at both ends
module _ (xs ys : List ℤ) (fs : List ℕ) where
  to_ends : (k : ℕ) → OnBothEnds (points_to xs ys fs k)
  unfolding points_to
  to_ends zero = crates_rows.start xs ys
  to_ends (suc k) = crates_rows.segment (points_to xs ys fs k) (seg_at xs ys fs k) (to_ends k)

  carries_ends : Carried OnBothEnds OnBothEnds OnBothEnds xs ys fs false
  carries_ends = record {
    begins = (crates_rows.start xs ys, λ ps h. h);
    segment = crates_rows.segment;
    pieces = crates_rows.pieces;
    unchanged = to_ends (count_of fs);
  }

module _ (rooms : Rooms) (room : ℕ) (settings : Settings) (xs ys : List ℤ) (fs : List ℕ) (ps : Points) (tally : Tally)
    (came : crunch_of rooms room settings xs ys fs ≡ crunched ps tally) where
  starts_on : (b : Bool) → settings.closed ≡ b → StartsOn ps
  starts_on true e = corner_on (starts_at rooms room settings xs ys fs ps tally came e)
  starts_on false e =
      let carried = subst (Carried OnBothEnds OnBothEnds OnBothEnds xs ys fs) (sym e) (carries_ends xs ys fs) in
      let out = comes_out OnBothEnds OnBothEnds rooms room settings xs ys fs (λ fine. carried) came in
      let is : finished false out.row ≡ ps = ap (λ (b : Bool). finished b out.row) (sym e) ∙ out.is in
      subst StartsOn is (starts_on_curve.crates out.row out.holds)

-- ---- fed back

-- the first flag that is written of a point on-curve is 1
flags_on : (ps : Points) → StartsOn ps → first_off (flags ps) ≡ false
flags_on [] h = refl
flags_on (p ∷ ps) h = rw h

some_point : (ps : Points) → StartsOn ps → length ps ≡ 0 → ⊥
some_point [] h e = false≢true (sym h)
some_point (p ∷ ps) h e = omega (arith, e)

module _ (ps : Points) (on : StartsOn ps) where
  long_x : length (column 0 ps) ≡ length ps
  long_x = length-map ps (λ (p : List ℤ). number p 0)

  long_y : length (column 1 ps) ≡ length ps
  long_y = length-map ps (λ (p : List ℤ). number p 1)

  long_f : length (flags ps) ≡ length ps
  long_f = length-map ps flag_of

  -- only 3 and 5 are left
  left : judged_again ps ≡ refuse TooManyPoints (too_many (length (flags ps))) (refuse OffCurveNeighbours (off_neighbours (flags ps)) (Ok tt))
  unfolding judged
  left =
      rw (
        eq-eqb (length (column 0 ps)) (length (column 1 ps)) (long_x ∙ sym long_y),
        eq-eqb (length (column 0 ps)) (length (flags ps)) (long_x ∙ sym long_f),
        ne_eqb (length (flags ps)) 0 (λ z. some_point ps on (sym long_f ∙ z)),
        flags_on ps on,
      ) refl

  none_of : (k : Refusal) → (k ≡ TooManyPoints → ⊥) → (k ≡ OffCurveNeighbours → ⊥) → judged_again ps ≡ Err k → ⊥
  none_of k n3 n5 e = by (too_many (length (flags ps))) (off_neighbours (flags ps)) (sym left ∙ e)
    where
      by : (b c : Bool) → refuse TooManyPoints b (refuse OffCurveNeighbours c (Ok tt)) ≡ Err k → ⊥
      by true c q = n3 cc
      by false true q = n5 cc
      by false false q = cc

  can_come_back : CanComeBack ps
  can_come_back = record {
    starts = on;
    not_one = none_of UnevenRows (λ e. cc) (λ e. cc);
    not_two = none_of NoPoint (λ e. cc) (λ e. cc);
    not_four = none_of StartsOffCurve (λ e. cc) (λ e. cc);
  }

pub comes_back : ComesBack
comes_back rooms room settings xs ys fs ps tally e = can_come_back ps (starts_on rooms room settings xs ys fs ps tally e settings.closed refl)

-- ---- closed mode: no two off-curve neighbours before implied points are dropped

-- the points of lines and curves, one after the other
data Pieced : Points → Type 0 where
  none : Pieced []
  line : {p : List ℤ} {ps : Points} → off_curve p ≡ false → Pieced ps → Pieced (p ∷ ps)
  curve : {p q : List ℤ} {ps : Points} → off_curve q ≡ false → Pieced ps → Pieced (p ∷ q ∷ ps)

and_then : {ps qs : Points} → Pieced ps → Pieced qs → Pieced (ps ++ qs)
and_then none k = k
and_then (line on h) k = line on (and_then h k)
and_then (curve on h) k = curve on (and_then h k)

seg_pieced : (g : Seg) → Pieced (points_of g)
seg_pieced (Seg.Line x0 y0 x1 y1) = line refl none
seg_pieced (Seg.Quad x0 y0 x1 y1 x2 y2) = curve refl none

piece_pieced : (b : Bool) (q : Quad) → Pieced (piece_if b q)
piece_pieced true q = line refl none
piece_pieced false q = curve refl none

pieces_pieced : (qs : List Quad) → Pieced (pieces_points qs)
unfolding pieces_points
pieces_pieced [] = none
pieces_pieced (q ∷ qs) = and_then (piece_pieced (is_line q) q) (pieces_pieced qs)

first_apart : {p q : List ℤ} → off_curve p ≡ false → NotBothOff p q
first_apart on = record { apart = λ off other. true≢false (sym off ∙ on) }

second_apart : {p q : List ℤ} → off_curve q ≡ false → NotBothOff p q
second_apart on = record { apart = λ other off. true≢false (sym off ∙ on) }

-- all but the last
unfoldable but_last : Points → Points
but_last [] = []
but_last (p ∷ []) = []
but_last (p ∷ q ∷ ps) = p ∷ but_last (q ∷ ps)

but_last_lem : (ps : Points) → but_last ps ≡ take (length ps - 1) ps
unfolding but_last
but_last_lem [] = refl
but_last_lem (p ∷ []) = refl
but_last_lem (p ∷ q ∷ ps) =
    let one : suc (suc (length ps) - 1) ≡ suc (suc (length ps)) - 1 = omega arith in
    ap (λ (qs : Points). p ∷ qs) (but_last_lem (q ∷ ps)) ∙ ap (λ (k : ℕ). take k (p ∷ q ∷ ps)) one

-- from an on-curve point by lines and curves, without the last end, to the start
module _ (s : List ℤ) (start : off_curve s ≡ false) where
  round_apart : (b : List ℤ) {ps : Points} → off_curve b ≡ false → Pieced ps → Round NotBothOff s b (but_last ps)
  unfolding but_last
  round_apart b on none = ends (first_apart on)
  round_apart b on (line on' none) = ends (first_apart on)
  round_apart b on (line {p = p} on' (line on'' h)) = goes (first_apart on) (round_apart p on' (line on'' h))
  round_apart b on (line {p = p} on' (curve on'' h)) = goes (first_apart on) (round_apart p on' (curve on'' h))
  round_apart b on (curve on' none) = goes (first_apart on) (ends (second_apart start))
  round_apart b on (curve {q = q} on' (line on'' h)) = goes (first_apart on) (goes (second_apart on') (round_apart q on' (line on'' h)))
  round_apart b on (curve {q = q} on' (curve on'' h)) = goes (first_apart on) (goes (second_apart on') (round_apart q on' (curve on'' h)))

  around_apart : (ps : Points) → Pieced ps → Neighbours NotBothOff (around s ps)
  around_apart ps h = subst (Round NotBothOff s s) (but_last_lem ps) (round_apart s start h)

-- ---- and the points of an upload that 4 and 5 let through

abbrev uploaded : ℤ → ℤ → ℕ → List ℤ
uploaded x y f = x ∷ y ∷ flag_if (is_on f) ∷ []

flag_off : (b : Bool) → off_curve (pos 0 ∷ pos 0 ∷ flag_if b ∷ []) ≡ not b
flag_off true = refl
flag_off false = refl

either_on : (a b : Bool) → (a && b) ≡ false → a ≡ true → b ≡ true → ⊥
either_on true b h e e' = true≢false (sym e' ∙ h)
either_on false b h e e' = false≢true e

neither : (a b : Bool) → (a || b) ≡ false → (a ≡ false) × (b ≡ false)
neither true b h = absurd (true≢false h)
neither false b h = (refl, h)

uploaded_apart : (x y u v : ℤ) (f g : ℕ) → both_off f g ≡ false → NotBothOff (uploaded x y f) (uploaded u v g)
uploaded_apart x y u v f g h = record { apart = λ o o'. either_on (not (is_on f)) (not (is_on g)) h (sym (flag_off (is_on f)) ∙ o) (sym (flag_off (is_on g)) ∙ o') }

module _ (s : List ℤ) (start : off_curve s ≡ false) where
  upload_apart : (x y : ℤ) (f : ℕ) (xs ys : List ℤ) (fs : List ℕ) → off_neighbours (f ∷ fs) ≡ false → Round NotBothOff s (uploaded x y f) (as_uploaded xs ys fs)
  unfolding as_uploaded off_neighbours
  upload_apart x y f [] ys fs h = ends (second_apart start)
  upload_apart x y f (u ∷ xs) [] fs h = ends (second_apart start)
  upload_apart x y f (u ∷ xs) (v ∷ ys) [] h = ends (second_apart start)
  upload_apart x y f (u ∷ xs) (v ∷ ys) (g ∷ fs) h =
      let both = neither (both_off f g) (off_neighbours (g ∷ fs)) h in
      goes (uploaded_apart x y u v f g both.0) (upload_apart u v g xs ys fs both.1)

neighbours_apart : (xs ys : List ℤ) (fs : List ℕ) → Accepted xs ys fs → Neighbours NotBothOff (as_uploaded xs ys fs)
unfolding as_uploaded
neighbours_apart [] ys fs ok = tt
neighbours_apart (x ∷ xs) [] fs ok = tt
neighbours_apart (x ∷ xs) (y ∷ ys) [] ok = tt
neighbours_apart (x ∷ xs) (y ∷ ys) (f ∷ fs) ok =
    let on : off_curve (uploaded x y f) ≡ false = flag_off (is_on f) ∙ ap not ok.first in
    upload_apart (uploaded x y f) on x y f xs ys fs ok.apart

module _ (xs ys : List ℤ) (fs : List ℕ) (fine : judged xs ys fs ≡ Ok tt) where
  carries_apart : Carried Pieced (Neighbours NotBothOff) (Neighbours NotBothOff) xs ys fs true
  carries_apart = record {
    begins = (none, λ a stops ps e h. around_apart (point_as true xs ys (start_of fs a)) refl ps h);
    segment = λ ps g h. and_then h (seg_pieced g);
    pieces = λ ps qs h. and_then h (pieces_pieced qs);
    unchanged = subst (Neighbours NotBothOff) (sym (in_closed_mode_lem xs ys fs fine).row) (neighbours_apart xs ys fs (accepted xs ys fs fine));
  }

pub no_half_point_written : NoHalfPointWritten
no_half_point_written rooms room settings xs ys fs ps tally e closed =
    let out = comes_out Pieced (Neighbours NotBothOff) rooms room settings xs ys fs
    (λ fine. subst (Carried Pieced (Neighbours NotBothOff) (Neighbours NotBothOff) xs ys fs) (sym closed) (carries_apart xs ys fs fine)) e in
    let is : finished true out.row ≡ ps = ap (λ (b : Bool). finished b out.row) (sym closed) ∙ out.is in
    subst (Neighbours WholeIfOff) is (all_whole out.row out.holds)
