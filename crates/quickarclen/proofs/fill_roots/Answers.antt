use Rattle.std.proofs.Common.{◌≡◌, arith}
use Rattle.quickarclen.proofs.Filling.{no_roots, one_root}
use Rattle.quickarclen.proofs.fill_roots.Goals as goal

pub loop-k-init : goal.loop-k-init
loop-k-init c = no_roots c.requires.2

pub loop-k-preserved : goal.loop-k-preserved
loop-k-preserved c = one_root _ c.loop-k.invariant c.loop-k-test.true c.root_by.ensures

pub returns : goal.returns
returns c =
    let end : c.loop-k.k ≡ 20 = omega arith in
    rw end at c.loop-k.invariant
