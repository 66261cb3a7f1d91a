-- `optimize::try_bent` meets its contract. Assumes nothing.
use mathlib.Core.Path.{refl, sym, ◌∙◌}
use Rattle.optimize.specs.Optimize.{measure_by}
use Rattle.optimize.specs.Fallen.{fallen_between}
use Rattle.optimize.specs.Stored.{goes}
use Rattle.optimize.proofs.Trying.{reads_both, bend_ends, bent_is, fell_is, from_upto}
use Rattle.optimize.proofs.try_bent.Goals as goal

pub find_bend-requires : goal.find_bend-requires
find_bend-requires c = reads_both c.requires

pub returns-in_default : goal.returns-in_default
returns-in_default c = λ f n st room into rep.
    let measure = measure_by c.args.samples.now c.args.breaks.now in
    let none = sym c.in_default.is ∙ c.find_bend.ensures f n st (from_upto into) rep in
    rw (
      bent_is measure (fallen_between c.args.samples.now c.args.breaks.now) c.args.breaks.now c.args.penalty c.args.i c.args.j st none,
      fell_is measure (fallen_between c.args.samples.now c.args.breaks.now) c.args.breaks.now c.args.penalty c.args.i c.args.j st none,
    )
    (goes refl rep)

pub try_quad-requires : goal.try_quad-requires
try_quad-requires c =
    let is = sym c.in-Some.is ∙ c.find_bend.ensures c.requires.phase c.requires.last c.requires.st (from_upto c.requires.into) c.requires.rep in
    record { ready = c.requires; p0_value = bend_ends _ _ _ _ is }

pub returns : goal.returns
returns c = λ f n st room into rep.
    let measure = measure_by c.args.samples.now c.args.breaks.now in
    let is = sym c.in-Some.is ∙ c.find_bend.ensures f n st (from_upto into) rep in
    rw (
      bent_is measure (fallen_between c.args.samples.now c.args.breaks.now) c.args.breaks.now c.args.penalty c.args.i c.args.j st is,
      fell_is measure (fallen_between c.args.samples.now c.args.breaks.now) c.args.breaks.now c.args.penalty c.args.i c.args.j st is,
    )
    (c.try_quad.ensures f n st room into rep)
