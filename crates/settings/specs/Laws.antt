-- The crate's penalty is 1.0 and the default 2.0. Assumes nothing.
use Rattle.std.specs.Prelude.{◌≡◌, refl}
use Rattle.std.specs.Float.Ieee as Ieee
use Rattle.float.specs.Numbers.{one}
use Rattle.settings.specs.Settings.{penalty_of, crate_settings, default_settings}

pub crate_penalty : penalty_of crate_settings ≡ one
unfolding penalty_of Ieee.of_int Ieee.of_bits Ieee.div Ieee.round Ieee.size
crate_penalty = refl

-- document 02's default is 2.0
pub default_penalty : penalty_of default_settings ≡ Ieee.of_bits Ieee.binary64 0x4000000000000000
unfolding penalty_of Ieee.of_int Ieee.of_bits Ieee.div Ieee.round Ieee.size
default_penalty = refl
