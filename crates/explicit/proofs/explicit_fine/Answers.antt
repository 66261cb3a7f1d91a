-- `explicit::explicit_fine` meets its contract. Assumes nothing.
use Rattle.explicit.proofs.Turning.{first_most}
use Rattle.explicit.proofs.explicit_fine.Goals as goal

pub put_all-w-requires : goal.put_all-w-requires
put_all-w-requires c = rw c.first_on.ensures (first_most _)

pub returns : goal.returns
returns c =
    rw (← c.first_on.ensures)
    (c.write_out.ensures _ c.put_all-w.ensures)
