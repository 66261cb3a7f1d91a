-- `gliftext::word::digit` meets its contract. Assumes nothing.
use Rattle.gliftext.specs.Pick.{pick}
use Rattle.gliftext.specs.Words.{digit_of}
use borrow.Author.Tests.{lt-ltb, le-ltb}
use native.Mathlib.Omega.{arith}
use Rattle.gliftext.proofs.word.digit.Goals as goal

pub returns-then-b-lt58 : goal.returns-then-b-lt58
unfolding digit_of pick
returns-then-b-lt58 c = record { value = rw (c.less.ensures, lt-ltb _ _ c.if-b-lt58.true); upper_bound = omega (arith, c.less.ensures) }

pub returns-then-b-lt71 : goal.returns-then-b-lt71
unfolding digit_of pick
returns-then-b-lt71 c = record { value = rw (c.less-then-b-lt71.ensures, le-ltb _ _ c.if-b-lt58.false, lt-ltb _ _ c.if-b-lt71.true); upper_bound = omega (arith, c.less-then-b-lt71.ensures) }

pub returns : goal.returns
unfolding digit_of pick
returns c = record { value = rw (c.less-2.ensures, le-ltb _ _ c.if-b-lt58.false, le-ltb _ _ c.if-b-lt71.false); upper_bound = omega (arith, c.less-2.ensures) }
