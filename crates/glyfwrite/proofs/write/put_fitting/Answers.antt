-- `glyfwrite::write::put_fitting` meets its contract. Assumes nothing.
use Rattle.glyfwrite.proofs.Writing.{no_room, with_room}
use Rattle.glyfwrite.proofs.write.put_fitting.Goals as goal

pub returns-then-out-size : goal.returns-then-out-size
returns-then-out-size c = no_room _ _ c.put_glyph-size.ensures c.if-out-size.true

pub returns : goal.returns
returns c = with_room _ _ c.put_glyph-size.ensures c.if-out-size.false c.put_glyph.ensures
