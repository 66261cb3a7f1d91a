-- `glyfread::walk::scan_flags` meets its contract. The loop's invariant: the flags from here on, with the bytes counted so far, give what they all give. Assumes nothing.
use lib.ListN.{length, drop}
use Rattle.glyf.specs.Layout.{flags_of}
use Rattle.glyfread.specs.Steps.{scan_of}
use Rattle.glyfread.proofs.Walking.{Scanning}
use Rattle.glyfread.proofs.walk.scan_flags.Given as goal

abbrev pub invariant-loop-i : goal.invariant-loop-i
invariant-loop-i l = Scanning l.bytes (scan_of (length l.bytes) (flags_of l.count 0 0 (drop l.from l.bytes))) l.count l.at l.due l.flag l.wide_x l.wide_y l._i
