-- `glif::scan::scan_bytes` meets its contract. Assumes nothing.
use Rattle.std.proofs.Common.{◌≡◌}
use Rattle.glif.specs.Scan.{pass, scanned}
use Rattle.glif.proofs.scan.scan_bytes.Given as goal

abbrev pub invariant-loop-i : goal.invariant-loop-i
invariant-loop-i l = pass l.s l.names l.points ≡ scanned l.bytes l.i l.initial.names l.initial.points
