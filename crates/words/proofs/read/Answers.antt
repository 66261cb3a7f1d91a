use Rattle.std.proofs.Common.{◌+◌, sym, ap, ◌∙◌, drop, option_and_then}
use Rattle.lines.specs.Stream.{ended_by}
use Rattle.words.specs.Words.{all_taken, ended, asked_of}
use Rattle.words.specs.declared.Reading.{Reading}
use Rattle.words.proofs.Taking.{next_word, no_word}
use Rattle.words.proofs.read.Goals as goal

pub returns-in_err-r : goal.returns-in_err-r
unfolding asked_of
returns-in_err-r c =
    let later = λ (r : Reading). all_taken r (ended_by 0 (drop (c.end_of-e.result + 1) c.args.words.now)) in
    c.from_residual.ensures
    ∙ sym (ap (option_and_then ended) (c.loop-at.invariant ∙ next_word _ _ _ _ c.loop-at-test.true c.end_of-e.ensures.value ∙ ap (option_and_then later) (sym c.in_err-r.ensures)))

pub loop-at-preserved : goal.loop-at-preserved
loop-at-preserved c =
    let later = λ (r : Reading). all_taken r (ended_by 0 (drop (c.end_of-e.result + 1) c.args.words.now)) in
    c.loop-at.invariant ∙ next_word _ _ _ _ c.loop-at-test.true c.end_of-e.ensures.value ∙ ap (option_and_then later) (sym c.in_ok-r.ensures)

pub returns : goal.returns
unfolding asked_of
returns c = c.end.ensures ∙ sym (ap (option_and_then ended) (c.loop-at.invariant ∙ no_word _ _ _ c.loop-at-test.false))
