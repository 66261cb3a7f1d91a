-- When a run is left unchanged: nothing stands at the last break after the first pair. The theorems, `ends` and `unchanged_by`, stand in
-- proofs/Unchanged.antt. Definitions only.
use Rattle.std.specs.Prelude.{ℕ, ◌<◌, List, ◌≡◌, Float, length, replicate}
use Rattle.breaks.specs.Breaks.{Row}
use Rattle.attempt.specs.Answers.{Statelet, Best, none}
use Rattle.optimize.specs.Optimize.{Measure, best_at, states, try_line_quad, Optimised, refused8, unchanged, solved, last_break, optimize_of}

-- after the first pair, whose measures are not refused, no answer stands at the last break
pub record NoAnswer (measure : Measure) (breaks : Row) (penalty : Float) : Type 0 where
  pub st : List Best
  pub first_pair : try_line_quad measure breaks penalty 0 (last_break measure breaks penalty) (replicate (length breaks) none) ≡ states st
  pub nothing : best_at st (last_break measure breaks penalty) ≡ none

-- how the work on a run ends: later pairs take no answer away
pub data Ends (measure : Measure) (breaks : Row) (penalty : Float) : Optimised → Type 0 where
  refuses : Ends measure breaks penalty refused8
  leaves : NoAnswer measure breaks penalty → Ends measure breaks penalty (unchanged 1)
  answers : (a : Statelet) (pairs : ℕ) → Ends measure breaks penalty (solved a pairs)

abbrev pub EndsSo : Type 0
EndsSo = (measure : Measure) (breaks : Row) (penalty : Float) → 0 < length breaks → Ends measure breaks penalty (optimize_of measure breaks penalty)

abbrev pub UnchangedBy : Type 0
UnchangedBy = (measure : Measure) (breaks : Row) (penalty : Float) → NoAnswer measure breaks penalty → optimize_of measure breaks penalty ≡ unchanged 1
