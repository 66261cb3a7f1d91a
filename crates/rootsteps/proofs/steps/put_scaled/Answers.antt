-- `rootsteps::steps::put_scaled` meets its contract, as `float::root` does: 53 turns, the rounding, the digits put together.
use Rattle.std.proofs.Common.{◌≡◌, ◌*◌, ◌^◌, ◌∙◌}
use Rattle.float.specs.Float.{root_near}
use Rattle.float.proofs.Squares.{near_word}
use Rattle.float.proofs.Scaled.{root_in}
use Rattle.rootsteps.proofs.steps.put_scaled.Goals as goal

pub from_digits-requires : goal.from_digits-requires
from_digits-requires c =
    let digits : c.rounded.result ≡ root_near 53 (c.args.word * 2 ^ 42) = c.rounded.ensures ∙ near_word _ _ _ c.ranges.word.fits c.put_turns-t.ensures in
    let p = root_in c.requires.0 in
    rw digits (p.0, p.1, c.requires.1)

pub returns : goal.returns
returns c =
    let digits : c.rounded.result ≡ root_near 53 (c.args.word * 2 ^ 42) = c.rounded.ensures ∙ near_word _ _ _ c.ranges.word.fits c.put_turns-t.ensures in
    c.from_digits.ensures ∙ rw digits
