-- `glyphs::contours::crunch_contours` meets its contract. Assumes nothing.
-- the rows that runs are worked in are as long as they were; and the contours so far
use mathlib.Core.Path.{◌≡◌}
use lib.ListN.{length}
use Rattle.rows.specs.Rows.{work}
use Rattle.edition.specs.Scratch.{rooms_of}
use Rattle.glyphs.proofs.Going.{Going}
use Rattle.glyphs.proofs.contours.crunch_contours.Given as goal

abbrev pub invariant-loop-k : goal.invariant-loop-k
invariant-loop-k l =
    (rooms_of (work l.samples l.breaks l.answers l.links) ≡ rooms_of (work l.initial.samples l.initial.breaks l.initial.answers l.initial.links))
    × Going (rooms_of (work l.initial.samples l.initial.breaks l.initial.answers l.initial.links)) l.settings (length l.initial.points) l.initial.ends l.xs l.ys l.flags l.ends l.points l.from l.at l.k
