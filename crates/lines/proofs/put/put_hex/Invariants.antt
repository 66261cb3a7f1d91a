-- The loop's invariant: the last k digits, put from here, make the whole.
use Rattle.lines.specs.Text.{hex_from}
use Rattle.lines.proofs.Texts.{Going}
use Rattle.lines.proofs.put.put_hex.Given as goal

abbrev pub invariant-loop-k : goal.invariant-loop-k
invariant-loop-k l = Going l.initial.out l.at (hex_from 16 l.b) l.out l.a (hex_from l.k l.b)
