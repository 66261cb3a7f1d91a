-- `assembly::step` meets its contract. Assumes nothing.
use Prim.Native.Nat.{◌+◌}
use mathlib.Core.Path.{sym}
use lib.Seq.{length-take-le}
use Rattle.refusals.proofs.Passing.{handed_up}
use Rattle.optimize.specs.Fallen.{nothing_upto, plus_upto, upto_sums}
use Rattle.edition.specs.Laws.{edition_few}
use Rattle.assembly.proofs.Run.{chosen, done, few, refused_stands, unchanged_stands, done_stands}
use Rattle.assembly.proofs.step.Goals as goal

pub edition-requires : goal.edition-requires
edition-requires c = c.requires.0

pub plus-tally-requires : goal.plus-tally-requires
plus-tally-requires c =
    let works = chosen _ _ _ _ c.per_piece.ensures c.edition.ensures in
    upto_sums c.requires.1 (few works (edition_few _ _ _ c.requires.0 _ _) (rw c.in-Unchanged.is at c.in_ok-t.was))

pub plus-tally-requires-in-Done : goal.plus-tally-requires-in-Done
plus-tally-requires-in-Done c =
    let works = chosen _ _ _ _ c.per_piece.ensures c.edition.ensures in
    upto_sums c.requires.1 (few works (edition_few _ _ _ c.requires.0 _ _) (rw c.in-Done.is at c.in_ok-t.was))

pub slice_bounds-push_chain-end : goal.slice_bounds-push_chain-end
slice_bounds-push_chain-end c =
    sym (length-take-le _ _ (done c.edition.ensures (rw c.in-Done.is at c.in_ok-t.was)).within)

pub push_chain-w-requires : goal.push_chain-w-requires
push_chain-w-requires c = (done c.edition.ensures (rw c.in-Done.is at c.in_ok-t.was)).stored

pub returns-in_err-t : goal.returns-in_err-t
returns-in_err-t c =
    let works = chosen _ _ _ _ c.per_piece.ensures c.edition.ensures in
    rw (handed_up c.from_residual.result _ c.from_residual.ensures.1)
    (record { stands = λ ps wrote. refused_stands works _ ps _ c.in_err-t.was; few = λ runs h. nothing_upto (runs + 1) })

pub returns-in-Unchanged : goal.returns-in-Unchanged
returns-in-Unchanged c =
    let works = chosen _ _ _ _ c.per_piece.ensures c.edition.ensures in
    record {
      stands = λ ps wrote. unchanged_stands works _ ps _ (rw c.in-Unchanged.is at c.in_ok-t.was) c.plus-tally.ensures c.unchanged_in-w.ensures;
      few = λ runs h. rw c.plus-tally.ensures (plus_upto h (few works (edition_few _ _ _ c.requires.0 _ _) (rw c.in-Unchanged.is at c.in_ok-t.was)));
    }

pub returns-in-Done : goal.returns-in-Done
returns-in-Done c =
    let works = chosen _ _ _ _ c.per_piece.ensures c.edition.ensures in
    record {
      stands = λ ps wrote. done_stands works _ ps _ (rw c.in-Done.is at c.in_ok-t.was) c.plus-tally-in-Done.ensures c.push_chain-w.ensures wrote;
      few = λ runs h. rw c.plus-tally-in-Done.ensures (plus_upto h (few works (edition_few _ _ _ c.requires.0 _ _) (rw c.in-Done.is at c.in_ok-t.was)));
    }
