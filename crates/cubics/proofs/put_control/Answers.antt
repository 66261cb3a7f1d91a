-- `cubics::put_control` meets its contract. Assumes nothing.
use Prim.Native.Nat.{◌+◌, ◌*◌}
use mathlib.Core.Path.{refl}
use Rattle.halving.specs.Cubic.{control}
use Rattle.halving.proofs.Halving.{control_exact, roomy_less}
use Rattle.cubics.proofs.put_control.Goals as goal

pub returns : goal.returns
returns c = λ n e b room v.
    c.put_rounded.ensures (control n.x) (control n.y) (e + 2) (8 * b) room
    (rw c.control.ensures (control_exact (roomy_less room) v.x))
    (rw c.control-2.ensures (control_exact (roomy_less room) v.y)) refl
