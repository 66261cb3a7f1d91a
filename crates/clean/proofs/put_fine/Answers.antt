-- `clean::put_fine` meets its contract. Assumes nothing.
use lib.ListN.{length}
use Rattle.clean.proofs.Restoring.{spots_are}
use Rattle.clean.proofs.put_fine.Goals as goal

pub returns : goal.returns
returns c =
    rw (spots_are (length c.args.flags.now) c.args.list.now c.put_all.ensures c.put_kept.ensures) at c.write_spots.ensures
