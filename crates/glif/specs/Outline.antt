-- The points of the contours as they stand in the file, and what is refused of them. Definitions only.
use Rattle.std.specs.Prelude.{ℕ, ◌-◌, Bool, false, not, List, [], ◌∷◌, eqb, ltb, set}
use Rattle.gliftext.specs.Pick.{pick, both, either, more, sum}
use Rattle.gliftext.specs.Words.{digit_last}
use Rattle.gliftext.specs.Text.{is_kind}
use Rattle.glif.specs.Tree.{on_path, opens_tag}
use Rattle.gliftext.specs.declared.word.Number.{Number}
use Rattle.gliftext.specs.declared.text.Kind.TheVariants.{Move, Line, Curve, Offcurve, Unknown}
use Rattle.gliftext.specs.declared.text.Point.{Point}
use Rattle.glif.specs.declared.tree.Tree.{Tree}
use Rattle.glif.specs.declared.outline.Sum.{Sum}
use Rattle.gliftext.specs.Actions.{does}
use Rattle.gliftext.specs.declared.action.Action.{Action}
use Rattle.gliftext.specs.declared.action.Action.TheVariants.{Empty, Closes}

-- ---- coordinates

-- it ends with a digit
unfoldable pub is_number : Number → Bool
is_number n = digit_last n.state

-- outside 16 bits
unfoldable pub is_far : Number → Bool
is_far n = pick n.minus (ltb 32768 n.size) (ltb 32767 n.size)

-- counted from -32768, so that it is never below zero
unfoldable pub offset_of : Number → ℕ
offset_of n = pick n.minus (32768 - n.size) (sum 32768 n.size)

-- ---- types

-- 20: an open contour, a cubic, a number that is not whole
unfoldable pub cubic_of : Point → Bool
cubic_of p = either (either (is_kind p.kind Move) (is_kind p.kind Curve)) (either p.x.part p.y.part)

-- ---- what is summed up

abbrev pub no_sum : Sum
no_sum =
    record {
      contours = 0;
      points = 0;
      full = 0;
      here = 0;
      on = false;
      lead = false;
      straight = false;
      off = false;
      wrong = false;
      cubic = false;
      far = false;
      bare = false;
    }

unfoldable pub begun : Sum → Sum
begun s =
    record {
      contours = s.contours;
      points = s.points;
      full = s.full;
      here = 0;
      on = false;
      lead = false;
      straight = false;
      off = false;
      wrong = s.wrong;
      cubic = s.cubic;
      far = s.far;
      bare = s.bare;
    }

-- going round, the last point stands before the first: a midpoint between two off-curve, and no line after one
abbrev pub full_end : Sum → ℕ
full_end s = pick (both s.lead s.off) (more s.full) s.full

-- 21: no on-curve point; 14: more points than ends can tell
unfoldable pub ended : Sum → Sum
ended s =
    record {
      contours = more s.contours;
      points = s.points;
      full = full_end s;
      here = s.here;
      on = s.on;
      lead = s.lead;
      straight = s.straight;
      off = s.off;
      wrong = either s.wrong (both s.straight s.off);
      cubic = s.cubic;
      far = either s.far (ltb 65536 (full_end s));
      bare = either s.bare (not s.on);
    }

-- coordinates that are no numbers, an unknown type, a move that is not first, a line after an off-curve point
unfoldable pub wrong_point : Sum → Point → Bool
wrong_point s p =
    either (either (not (both (is_number p.x) (is_number p.y))) (is_kind p.kind Unknown))
    (either (both (ltb 0 s.here) (is_kind p.kind Move)) (both (both (ltb 0 s.here) s.off) (is_kind p.kind Line)))

unfoldable pub with_point : Sum → Point → Sum
with_point s p =
    record {
      contours = s.contours;
      points = more s.points;
      full = pick (both (is_kind p.kind Offcurve) s.off) (more (more s.full)) (more s.full);
      here = more s.here;
      on = either s.on (not (is_kind p.kind Offcurve));
      lead = pick (eqb s.here 0) (is_kind p.kind Offcurve) s.lead;
      straight = pick (eqb s.here 0) (is_kind p.kind Line) s.straight;
      off = is_kind p.kind Offcurve;
      wrong = either s.wrong (wrong_point s p);
      cubic = either s.cubic (cubic_of p);
      far = either s.far (either (is_far p.x) (is_far p.y));
      bare = s.bare;
    }

-- ---- where they are met

unfoldable pub point_met : Tree → Action → ℕ → Bool
point_met t action word = both (opens_tag action) (both (eqb t.level 3) (on_path t word))

unfoldable pub contour_met : Tree → Action → ℕ → Bool
contour_met t action word = both (opens_tag action) (both (eqb t.level 2) (on_path t word))

unfoldable pub contour_left : Tree → Action → ℕ → Bool
contour_left t action word =
    either (both (does action Closes) (both (eqb t.level 3) (eqb t.depth 3))) (both (does action Empty) (contour_met t action word))

abbrev pub begins_here : Sum → Tree → Action → ℕ → Sum
begins_here s t action word = pick (contour_met t action word) (begun s) s

abbrev pub point_here : Sum → Tree → Action → ℕ → Point → Sum
point_here s t action word p = pick (point_met t action word) (with_point s p) s

abbrev pub ends_here : Sum → Tree → Action → ℕ → Sum
ends_here s t action word = pick (contour_left t action word) (ended s) s

unfoldable pub summed : Sum → Tree → Action → ℕ → Point → Sum
summed s t action word p = ends_here (point_here (begins_here s t action word) t action word p) t action word

-- ---- the scratch row: x, y, and 1 for on-curve, 2 more for the first of a contour

unfoldable pub mark_of : Bool → Bool → ℕ
mark_of first off = pick first (pick off 2 3) (pick off 0 1)

-- no row has so many places
abbrev pub nowhere : ℕ
nowhere = 18446744073709551615

unfoldable pub kept_point : List (List ℕ) → Bool → Sum → Point → List (List ℕ)
kept_point points met s p =
    set points (pick met s.points nowhere)
    (offset_of p.x ∷ offset_of p.y ∷ mark_of (eqb s.here 0) (is_kind p.kind Offcurve) ∷ [])
