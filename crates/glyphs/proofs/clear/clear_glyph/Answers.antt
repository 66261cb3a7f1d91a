-- `glyphs::clear::clear_glyph` meets its contract. Assumes nothing.
use Rattle.glyf.specs.Layout.{glyph}
use Rattle.glyphs.proofs.clear.clear_glyph.Goals as goal

pub returns : goal.returns
returns c = λ k. glyph (c.clear_u16.ensures k) (c.clear_i16.ensures k) (c.clear_i16-2.ensures k) (c.clear_u8.ensures k) (c.clear_u8-2.ensures k)
