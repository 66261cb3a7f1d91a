use native.Mathlib.Omega.{arith}
use Rattle.glif.proofs.Passing.{scan_starts, scan_more, scan_all}
use Rattle.glif.proofs.scan.scan_bytes.Goals as goal

pub loop-i-init : goal.loop-i-init
loop-i-init c = scan_starts _ _ _ c.fresh_scan-s.ensures

pub loop-i-preserved : goal.loop-i-preserved
loop-i-preserved c = scan_more _ _ _ _ c.loop-i.invariant c.turn-s.ensures

pub returns : goal.returns
returns c = scan_all _ _ _ (omega arith) (omega arith) c.loop-i.invariant
