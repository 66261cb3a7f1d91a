-- `editions::entry::both_into` meets its contract. Assumes nothing.
use Rattle.rows.specs.Rows.{work}
use Rattle.edition.specs.Scratch.{rooms_of}
use Rattle.editions.specs.Editions.{settings_a, settings_b}
use Rattle.editions.proofs.Alone.{fine_gives, refused_gives}
use Rattle.editions.proofs.entry.both_into.Goals as goal

pub returns-in-Err : goal.returns-in-Err
returns-in-Err c =
    record { a = refused_gives (rooms_of (work c.args.samples.now c.args.breaks.now c.args.answers_a.now c.args.links_a.now)) (settings_a c.args.order) c.args.xs.now c.args.ys.now c.args.flags.now _ c.judge.ensures c.in-Err.is; b = refused_gives (rooms_of (work c.args.samples.now c.args.breaks.now c.args.answers_b.now c.args.links_b.now)) (settings_b c.args.order) c.args.xs.now c.args.ys.now c.args.flags.now _ c.judge.ensures c.in-Err.is }

pub returns-in-Ok : goal.returns-in-Ok
returns-in-Ok c =
    record { a = fine_gives (rooms_of (work c.args.samples.now c.args.breaks.now c.args.answers_a.now c.args.links_a.now)) (settings_a c.args.order) c.args.xs.now c.args.ys.now c.args.flags.now _ c.judge.ensures c.in-Ok.is c.work_both.ensures.a; b = fine_gives (rooms_of (work c.args.samples.now c.args.breaks.now c.args.answers_b.now c.args.links_b.now)) (settings_b c.args.order) c.args.xs.now c.args.ys.now c.args.flags.now _ c.judge.ensures c.in-Ok.is c.work_both.ensures.b }
