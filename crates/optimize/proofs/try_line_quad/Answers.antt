-- `optimize::try_line_quad` meets its contract. Assumes nothing.
use Rattle.optimize.specs.Optimize.{measure_by}
use Rattle.optimize.specs.Fallen.{fallen_between}
use Rattle.optimize.proofs.Trying.{from_whole, from_half, fell_whole, fell_half, is_whole_of}
use Rattle.optimize.proofs.try_line_quad.Goals as goal

pub returns-then-is_whole : goal.returns-then-is_whole
returns-then-is_whole c = λ f n st room into rep.
    rw (
      from_whole (measure_by c.args.samples.now c.args.breaks.now) c.args.breaks.now c.args.penalty c.args.i c.args.j st
          (is_whole_of c.is_whole.ensures c.read-a.ensures c.if-is_whole.true),
      fell_whole (measure_by c.args.samples.now c.args.breaks.now) (fallen_between c.args.samples.now c.args.breaks.now) c.args.breaks.now
          c.args.penalty c.args.i c.args.j st (is_whole_of c.is_whole.ensures c.read-a.ensures c.if-is_whole.true),
    )
    (c.try_both.ensures f n st room into rep)

pub returns : goal.returns
returns c = λ f n st room into rep.
    rw (
      from_half (measure_by c.args.samples.now c.args.breaks.now) c.args.breaks.now c.args.penalty c.args.i c.args.j st
          (is_whole_of c.is_whole.ensures c.read-a.ensures c.if-is_whole.false),
      fell_half (measure_by c.args.samples.now c.args.breaks.now) (fallen_between c.args.samples.now c.args.breaks.now) c.args.breaks.now
          c.args.penalty c.args.i c.args.j st (is_whole_of c.is_whole.ensures c.read-a.ensures c.if-is_whole.false),
    )
    (c.try_bent.ensures f n st room into rep)
