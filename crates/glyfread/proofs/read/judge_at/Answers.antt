-- `glyfread::read::judge_at` meets its contract. Assumes nothing.
use Rattle.glyfread.proofs.Judging.{not_rising, not_fitting, judged}
use Rattle.glyfread.proofs.read.judge_at.Goals as goal

pub returns-then-not-words_rise : goal.returns-then-not-words_rise
returns-then-not-words_rise c = not_rising c.requires c.words_rise.ensures c.if-not-words_rise.true

pub returns-then-not-points_fit : goal.returns-then-not-points_fit
returns-then-not-points_fit c = not_fitting c.requires c.words_rise.ensures c.if-not-words_rise.false c.start.ensures c.points_fit.ensures c.if-not-points_fit.true

pub returns : goal.returns
returns c = judged c.requires c.words_rise.ensures c.if-not-words_rise.false c.start.ensures c.points_fit.ensures c.if-not-points_fit.false
