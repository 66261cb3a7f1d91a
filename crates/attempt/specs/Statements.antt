-- What a reader should know of a piece that is not measured, as a type; the theorem `no_less` of proofs/Order is of it. Statements only.
use Rattle.std.specs.Prelude.{true, ◌≡◌, T, Float}
use Rattle.std.specs.Float.{binary64}
use Rattle.std.specs.Float.Ieee.{add, lt}
use Rattle.float.specs.Numbers.{nought}
use Rattle.measure.specs.NotNegative.{not_negative}

-- a sum does not fall: where x + y is less than z, so is x + 0, if that is above zero and y is not negative
abbrev pub SumDoesNotFall : Type 0
SumDoesNotFall =
    (x y z : Float) → lt nought (add binary64 x nought) ≡ true → T (not_negative y) → lt (add binary64 x y) z ≡ true → lt (add binary64 x nought) z ≡ true
