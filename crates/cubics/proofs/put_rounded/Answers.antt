-- `cubics::put_rounded` meets its contract. Assumes nothing.
use mathlib.Core.Path.{sym}
use Rattle.halving.specs.Cubic.{nearest, rounded}
use Rattle.cubics.proofs.Making.{as_stored, kept, outside_point_lem}
use Rattle.cubics.proofs.put_rounded.Goals as goal

pub returns : goal.returns
returns c = λ z w e b room v u on.
    let a = c.nearest-a.ensures z e b room v in
    let d = c.nearest-b.ensures w e b room u in
    c.put.ensures (rounded e z w c.args.on)
    (as_stored c.nearest-a.result.value c.nearest-b.result.value c.args.on (nearest e z) (nearest e w) c.args.on a.value d.value (kept c.args.on on))
    (rw (a.far, d.far) (sym (outside_point_lem (nearest e z) (nearest e w) c.args.on on)))
