-- `quickroot::roots_agree` meets its contract: all roots are the definition's. Assumes nothing.
use Rattle.std.proofs.Common.{sym, ap, ◌∙◌}
use lib.Ieee.{binary64, to_bits}
use Rattle.quickroot.proofs.roots_agree.Goals as goal

pub returns : goal.returns
returns c =
    let stepped = c.bits.ensures ∙ ap (to_bits binary64) c.root.ensures in
    let quick = c.bits-2.ensures ∙ ap (to_bits binary64) c.root-2.ensures in
    let guessed = c.bits-3.ensures ∙ ap (to_bits binary64) c.root_by.ensures in
    (stepped ∙ sym quick, stepped ∙ sym guessed, stepped)
