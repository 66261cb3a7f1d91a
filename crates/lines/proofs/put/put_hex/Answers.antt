use Rattle.std.proofs.Common.{◌≡◌, arith}
use Rattle.lines.specs.Text.{hex_from}
use Rattle.lines.proofs.Texts.{begin, more, done}
use Rattle.lines.proofs.Digits.{hex_next}
use Rattle.lines.proofs.put.put_hex.Goals as goal

pub loop-k-init : goal.loop-k-init
loop-k-init c = begin _ _ _ _ c.min-a.ensures

pub loop-k-preserved : goal.loop-k-preserved
loop-k-preserved c = more (rw (hex_next _ _ c.loop-k-test.true, ← c.glyph.ensures) at c.loop-k.invariant) c.put_byte-a.ensures

pub returns : goal.returns
unfolding hex_from
returns c =
    let k : c.loop-k.k ≡ 0 = omega arith in
    done (rw k at c.loop-k.invariant)
