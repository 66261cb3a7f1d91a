use native.Mathlib.Omega.{arith}
use Rattle.glif.proofs.Passing.{scan_starts, scan_more}
use Rattle.glifwrite.proofs.Copying.{copy_starts, copy_more, copy_all}
use Rattle.glifwrite.proofs.write.write_all.Goals as goal

pub loop-i-init : goal.loop-i-init
loop-i-init c = (scan_starts _ _ _ c.fresh_scan-s.ensures, copy_starts _ _ _ c.no_copy-c.ensures)

pub loop-i-preserved : goal.loop-i-preserved
loop-i-preserved c = (
  scan_more _ _ _ _ c.loop-i.invariant.0 c.turn-t.ensures,
  copy_more _ _ _ _ c.loop-i.invariant.0 c.turn-t.ensures c.loop-i.invariant.1 c.copy_on-c.ensures,
)

pub returns : goal.returns
returns c = copy_all _ _ _ _ (omega arith) (omega arith) c.loop-i.invariant.1 c.put_range.ensures
