-- `quicklookup::quick_lookup` meets its contract: a guess that passes the tests is the place. Assumes nothing.
use Prim.Native.Nat.{◌+◌, ◌^◌, ◌<◌}
use mathlib.Core.Path.{sym}
use native.Mathlib.Omega.{arith}
use lib.Dec.{le→leb}
use lib.Ieee.{in_float}
use Rattle.quicklookup.proofs.Laws.{inside}
use Rattle.quicklookup.proofs.Fraction.{fraction}
use Rattle.quicklookup.proofs.Guess.{guessed}
use Rattle.quicklookup.proofs.quick_lookup.Goals as goal

pub int_to_float-f : goal.int_to_float-f
unfolding in_float
int_to_float-f c = le→leb c.likely-b.result (2 ^ 53) (omega (arith, c.likely-b.ensures))

pub int_to_float-b : goal.int_to_float-b
unfolding in_float
int_to_float-b c = le→leb (c.likely-b.result + 1) (2 ^ 53) (omega (arith, c.likely-b.ensures))

pub returns-then-b-row : goal.returns-then-b-row
returns-then-b-row c =
    let less : c.likely-b.result < 2 ^ 53 = omega (arith, c.likely-b.ensures) in
    let within = guessed _ _ less c.if-f-s.true c.if-s-b.true in
    rw (c.between.ensures, fraction _ _ within.positive within.place less) (sym (inside _ _ _ within.place c.if-b-row.true))
