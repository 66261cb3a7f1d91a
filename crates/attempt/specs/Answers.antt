-- The answers of module 8 as trees, as the Rust's `Rc<Statelet>` has them, and what one attempt makes of them. Definitions only.
use Rattle.std.specs.Prelude.{ℕ, zero, suc, Bool, true, false, not, ◌&&◌, ◌||◌, Float}
use Rattle.std.specs.Float.{binary64}
use Rattle.std.specs.Float.Ieee.{add, mul, lt}
use Rattle.float.specs.Numbers.{nought, one, two}
use Rattle.geometry.specs.Geometry.{is_line, is_smooth, is_whole}
use Rattle.geometry.specs.declared.Quad.{Quad}

-- a leg: a quad from one break to another
pub record Leg : Type 0 where
  pub from : ℕ
  pub to : ℕ
  pub quad : Quad

-- an answer as the tree of what it was built on: the first leg of a run, or a leg after another answer; with the score so far
pub data Statelet : Type 0 where
  first : Leg → Float → Statelet
  on : Statelet → Leg → Float → Statelet

abbrev pub score_of : Statelet → Float
score_of (first p s) = s
score_of (on a p s) = s

abbrev pub leg_of : Statelet → Leg
leg_of (first p s) = p
leg_of (on a p s) = p

-- what stands at a break: no answer, or one
pub data Best : Type 0 where
  none : Best
  best : Statelet → Best

-- ---- one attempt: a piece from a break where `previous` stands

-- an answer whose last piece is a curve
abbrev pub is_curve : Best → Bool
is_curve none = false
is_curve (best a) = not (is_line (leg_of a).quad)

-- a smooth joint of two curves
abbrev pub smooth_after : Best → Quad → Bool
smooth_after none q = false
smooth_after (best a) q = is_curve (best a) && is_smooth (leg_of a).quad q

-- `ok_for_half`: a piece that starts off whole units is curved and goes on smoothly from a curve
abbrev pub ok_for_half : Best → Quad → Bool
ok_for_half previous q = is_whole q.p0 || (not (is_line q) && smooth_after previous q)

-- m is 1 for a line or a smooth joint of two curves, else 2
abbrev pub one_or_two : Bool → Float
one_or_two true = one
one_or_two false = two

abbrev pub joint_of : Best → Quad → Float
joint_of previous q = one_or_two (is_line q || smooth_after previous q)

abbrev pub previous_score : Best → Float
previous_score none = nought
previous_score (best a) = score_of a

-- (previous + penalty * m) + measure
abbrev pub total_of : Best → Quad → Float → Float → Float
total_of previous q measure penalty = add binary64 (add binary64 (previous_score previous) (mul binary64 penalty (joint_of previous q))) measure

abbrev pub built_on : Best → Leg → Float → Statelet
built_on none p s = first p s
built_on (best a) p s = on a p s

-- a new answer replaces an old one only if its score is less, so that a NaN stays
abbrev pub is_less : Float → Best → Bool
is_less s none = true
is_less s (best a) = lt s (score_of a)

abbrev pub replaced_if : Bool → Best → Statelet → Best
replaced_if true old new = best new
replaced_if false old new = old

-- a piece is built on what stands where it starts; at break 0 it may start the run
abbrev pub may_build : ℕ → Best → Bool
may_build i (best a) = true
may_build zero none = true
may_build (suc i) none = false

abbrev pub combined_if : Bool → Best → Best → Leg → Float → Best
combined_if false old previous p s = old
combined_if true old previous p s = replaced_if (is_less s old) old (built_on previous p s)

unfoldable pub combined : Best → Best → Leg → Float → Float → Best
combined old previous p measure penalty = combined_if (may_build p.from previous) old previous p (total_of previous p.quad measure penalty)
