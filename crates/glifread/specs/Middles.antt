-- What the middle of two coordinates is, apart from how it is counted; and the words that are looked for, byte by byte. Definitions and statements.
use Rattle.std.specs.Prelude.{ℕ, ◌+◌, ◌-◌, ◌/◌, ◌≤◌, ◌≡◌, ℤ, pos, negsuc, ◌+ℤ◌}
use Rattle.std.specs.Int.Signed.{mag}
use Rattle.lines.specs.Line.{negative}
use Rattle.glifread.specs.Enter.{middle_of, signed_of}

-- half of a whole number, halves away from zero
abbrev pub half_away : ℤ → ℤ
half_away (pos n) = pos ((n + 1) / 2)
half_away (negsuc n) = negative ((n + 2) / 2)

-- a coordinate of 16 bits, counted from -32768
abbrev pub counted : ℤ → ℕ
counted (pos n) = 32768 + n
counted (negsuc n) = 32767 - n

-- what enters between two off-curve points is the middle, halves away from zero
abbrev pub MiddleIsAway : Type 0
MiddleIsAway = (a b : ℤ) → mag a ≤ 32767 → mag b ≤ 32767 → signed_of (middle_of (counted a) (counted b)) ≡ half_away (a +ℤ b)

-- a coordinate that was counted is itself again
abbrev pub CountedIsItself : Type 0
CountedIsItself = (a : ℤ) → mag a ≤ 32767 → signed_of (counted a) ≡ a
