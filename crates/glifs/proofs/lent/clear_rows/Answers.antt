-- `glifs::lent::clear_rows` meets its contract. Assumes nothing.
use Rattle.glifread.specs.Enter.{filled, rows}
use Rattle.glifs.proofs.lent.clear_rows.Goals as goal

pub returns : goal.returns
returns c = λ k. filled (c.clear_u16.ensures k) (rows (c.clear_i16.ensures k) (c.clear_i16-2.ensures k) (c.clear_u8.ensures k))
