-- `glifwrite::write::write_all` meets its contract. Assumes nothing.
use Rattle.std.proofs.Common.{◌≡◌}
use Rattle.glif.specs.Scan.{pass}
use Rattle.glifwrite.specs.Writes.{given, read_to, copying, no_copy, copy_to}
use Rattle.glifwrite.proofs.write.write_all.Given as goal

abbrev pub invariant-loop-i : goal.invariant-loop-i
invariant-loop-i l =
    (pass l.s l.names l.none ≡ read_to l.bytes l.i) × (copying l.c l.out ≡ copy_to l.bytes (given l.ends l.xs l.ys l.flags) l.i (copying no_copy l.initial.out))
