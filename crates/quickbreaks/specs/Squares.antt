-- Distances are held by their squares, and so by roots that are not taken: no distance is held as 0. Assumes nothing.
use Rattle.std.specs.Prelude.{◌≡◌, refl}
use Rattle.std.specs.Float.Ieee.{of_bits}
use Rattle.float.specs.Numbers.{nought}
use Rattle.float.specs.Float.{root_of}

pub root_none : root_of nought ≡ nought
unfolding root_of of_bits
root_none = refl
