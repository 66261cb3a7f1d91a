-- `glyfread::row::store` meets its contract. Assumes nothing.
use lib.Seq.{set_out}
use mathlib.Core.Path.{sym}
use Rattle.glyfread.proofs.row.store.Goals as goal

pub returns-else-i-row : goal.returns-else-i-row
returns-else-i-row g c = sym (set_out _ _ _ c.if-i-row.false)
