-- What is counted beside the answer of a run, or of several: the pairs tried, and the lookups that fell off the samples in them. Definitions only.
use Rattle.std.specs.Prelude.{ℕ, ◌+◌, ◌<◌, ◌^◌}
use Rattle.optimize.specs.declared.Tally.{Tally}

abbrev pub tally : ℕ → ℕ → Tally
tally pairs fallen = record { pairs = pairs; fallen = fallen }

-- nothing was tried
abbrev pub untried : Tally
untried = tally 0 0

-- one run after another
abbrev pub plus : Tally → Tally → Tally
plus t u = tally (t.pairs + u.pairs) (t.fallen + u.fallen)

-- no sum is too large
pub record Sums (t u : Tally) : Type 0 where
  pub pairs : t.pairs + u.pairs < 2 ^ 64
  pub fallen : t.fallen + u.fallen < 2 ^ 64
