-- What a reader should know of the penalty, as a type; the theorem `penalty_exact` of proofs/Penalty is of it. Statements only.
use Rattle.std.specs.Prelude.{true, false, ◌≡◌}
use Rattle.std.specs.Float.Ieee.Exact.{HasValue}
use Rattle.settings.specs.Settings.{penalty_of, settings_fine}
use Rattle.settings.specs.declared.Settings.{Settings}

-- every penalty that 16 lets through, from 1 to 256 sixteenths, is that many sixteenths as a float: the quotient is not rounded
abbrev pub PenaltyIsExact : Type 0
PenaltyIsExact = (s : Settings) → settings_fine s ≡ true → HasValue (penalty_of s) false s.penalty 16
