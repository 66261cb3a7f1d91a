-- `glif::scan::judge` meets its contract. Assumes nothing.
use Rattle.glif.proofs.Passing.{judge_is}
use Rattle.glif.proofs.scan.judge.Goals as goal

pub shape_of-points : goal.shape_of-points
shape_of-points c = c.scan_bytes-s.auto.points

pub returns : goal.returns
returns c = judge_is _ _ c.scan_bytes-s.ensures c.is_utf8.ensures c.totals_in.ensures
