-- `chains::put_solved` meets its contract. Assumes nothing.
use native.Mathlib.Omega.{arith}
use borrow.Author.Rules.{scaled_Fits}
use Rattle.pieces.specs.Slots.{chain}
use Rattle.chains.proofs.Steps.{in_answers, score_is, has_room, put_nothing, put_pieces}
use Rattle.chains.proofs.put_solved.Goals as goal

pub put_spans-requires : goal.put_spans-requires
put_spans-requires c =
    let room = has_room _ c.requires.stored.answer c.args.starts.now c.args.ends.now _ _ _ (c.put_chain.ensures _ _ c.requires.stored.holds) c.in-Some.is in
    (omega (arith, room.0, c.put_chain.auto.starts), omega (arith, room.1, c.put_chain.auto.ends), room.2)

pub offset_bounds-answers-k : goal.offset_bounds-answers-k
offset_bounds-answers-k c = scaled_Fits _ _ 24 (in_answers c.requires) c.well_formed.1.0.1

pub bounds-answers-k : goal.bounds-answers-k
bounds-answers-k c = in_answers c.requires

pub returns-in_default : goal.returns-in_default
returns-in_default c =
    λ b a h. put_nothing a c.args.breaks.now (chain c.args.starts.now c.args.ends.now c.args.cxs.now c.args.cys.now) c.args.spans.now c.args.tally _ (c.put_chain.ensures b a h) c.in_default.is

pub returns : goal.returns
returns c =
    λ b a h. put_pieces a c.args.breaks.now (chain c.args.starts.now c.args.ends.now c.args.cxs.now c.args.cys.now) c.args.spans.now c.args.tally _ _ _ _ (c.put_chain.ensures b a h) c.in-Some.is c.put_spans.ensures (score_is h)
