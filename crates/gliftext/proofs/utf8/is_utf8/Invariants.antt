-- `gliftext::utf8::is_utf8` meets its contract. Assumes nothing.
use Rattle.std.proofs.Common.{◌≡◌}
use Rattle.gliftext.specs.Utf8.{rune_at}
use Rattle.gliftext.proofs.utf8.is_utf8.Given as goal

abbrev pub invariant-loop-b : goal.invariant-loop-b
invariant-loop-b l = l.state ≡ rune_at l.bytes l.b-index
