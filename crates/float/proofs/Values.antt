-- The rows of specs/Worked hold, proved by one computed equation. Assumes nothing.
use Rattle.std.proofs.Common.{◌≡◌, map, refl}
use lib.Ieee as Ieee
use lib.Ieee.{of_bits, size, to_unsigned, to_signed}
use Rattle.float.specs.Float.{abs_of, tiny, close_to, whole_by, root_down, root_near, root_units, root_of}
use Rattle.float.specs.Worked.{computed, expected, table, WorkedValues}
use Rattle.float.proofs.Table.{each}

holds : map computed table ≡ map expected table
unfolding abs_of whole_by tiny close_to root_of root_units root_near root_down Ieee.round of_bits size Ieee.sub Ieee.lt to_signed to_unsigned
holds = refl

pub worked : WorkedValues
worked = each computed expected table holds
