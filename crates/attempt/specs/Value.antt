-- An answer by value, as a stored one is read, and what one attempt makes of it. Definitions only.
use Rattle.std.specs.Prelude.{ℕ, zero, suc, Bool, true, false, List, ◌≡◌, eqb, Float, Option, Some, None}
use Rattle.std.specs.Float.{binary64}
use Rattle.std.specs.Float.Ieee.{add, mul}
use Rattle.float.specs.Numbers.{nought}
use Rattle.geometry.specs.declared.Quad.{Quad}
use Rattle.measure.specs.Measure.{measure_of}
use Rattle.measure.specs.Fallen.{fallen_of}
use Rattle.attempt.specs.declared.answer.Answer as A
use Rattle.attempt.specs.declared.Outcome.{Outcome}
use Rattle.attempt.specs.Answers.{first, Best, none, best, joint_of, previous_score, total_of, is_less}
use Rattle.measure.specs.declared.Measure.{Measure}

-- break 0 starts the run: what is built on it has the link 1
abbrev pub start_name : ℕ → ℕ
start_name zero = 1
start_name (suc b) = 0

abbrev pub nothing_at : ℕ → Quad → A.Answer
nothing_at b q = record { name = start_name b; link = 0; score = nought; quad = q }

-- what it says of the piece before: its quad and its score, and nothing where it is no answer
abbrev pub best_if : Bool → A.Answer → Best
best_if true x = none
best_if false x = best (first (record { from = 0; to = 0; quad = x.quad }) x.score)

abbrev pub best_of : A.Answer → Best
best_of x = best_if (eqb x.link 0) x

abbrev pub or_else : Bool → A.Answer → A.Answer → A.Answer
or_else true a b = a
or_else false a b = b

-- a piece that is built on the previous answer replaces the old one if its score is less
abbrev pub new_answer : A.Answer → A.Answer → Quad → Float → A.Answer
new_answer old previous q s = record { name = old.name; link = previous.name; score = s; quad = q }

unfoldable pub combine_of : A.Answer → A.Answer → Float → Quad → Float → A.Answer
combine_of old previous measure q penalty =
    let s = total_of (best_of previous) q measure penalty in
    or_else (eqb previous.name 0) old (or_else (is_less s (best_of old)) (new_answer old previous q s) old)

-- the score of a piece that is built on the previous one, before its error is added
abbrev pub base_of : Best → Quad → Float → Float
base_of previous q penalty = add binary64 (previous_score previous) (mul binary64 penalty (joint_of previous q))

-- an attempt with the measure x, in which n lookups fell, makes the answer a and counts k
pub record Makes (x : Option Measure) (n : ℕ) (old previous : A.Answer) (q : Quad) (penalty : Float) (a : A.Answer) (k : ℕ) : Type 0 where
  pub error : Float
  pub is : x ≡ Some (record { error = error })
  pub same : a ≡ combine_of old previous error q penalty
  pub fell : k ≡ n

-- what becomes of such an attempt
abbrev pub Attempts : Option Measure → ℕ → A.Answer → A.Answer → Quad → Float → Option Outcome → Type 0
Attempts x n old previous q penalty (Some o) = Makes x n old previous q penalty o.answer o.fallen
Attempts x n old previous q penalty None = x ≡ None

-- a piece whose measure is not refused, leaves the old answer, and has no lookup that falls
pub record Idle (samples : List (List Float)) (s0 s1 : Float) (old previous : A.Answer) (q : Quad) (penalty : Float) : Type 0 where
  pub error : Float
  pub is : measure_of samples s0 s1 q ≡ Some (record { error = error })
  pub same : combine_of old previous error q penalty ≡ old
  pub none : fallen_of samples s0 s1 q ≡ 0
