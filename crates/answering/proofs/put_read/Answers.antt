use Rattle.std.proofs.Common.{ℕ, ℤ, pos, replicate, arith}
use Rattle.std.proofs.lemmas.List.{length-replicate}
use Rattle.answering.proofs.Lines.{in_places, says_malformed, says_points}
use Rattle.answering.proofs.put_read.Goals as goal

pub shared_whole_as_front-put_crunched : goal.shared_whole_as_front-put_crunched
shared_whole_as_front-put_crunched g c =
    let few = in_places _ _ _ _ _ _ c.args.line.now _ c.parse.ensures c.in-Some.is c.min-m.ensures in
    (omega arith, omega arith)

pub returns-in-None : goal.returns-in-None
returns-in-None g c = says_malformed _ _ _ _ _ _ _ _ c.parse.ensures c.in-None.is c.put_all.ensures

pub returns-in-Some : goal.returns-in-Some
returns-in-Some g c =
    let lx = length-replicate {0} {A = ℤ} g.row.N (pos 0) in
    let lf = length-replicate {0} {A = ℕ} g.row.N 0 in
    says_points (replicate g.row.N (pos 0)) (replicate g.row.N (pos 0)) (replicate g.row.N 0) c.parse.new.xs c.parse.new.ys c.parse.new.flags
    c.args.order c.args.line.now c.parse.ensures _ (omega arith, omega arith, omega arith) (omega arith) (omega arith) (omega arith)
    c.in-Some.is c.min-m.ensures c.put_crunched.ensures
