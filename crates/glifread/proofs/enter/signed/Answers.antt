-- `glifread::enter::signed` meets its contract. Assumes nothing.
use borrow.Author.Rules.{rules}
use native.Mathlib.Omega.{arith}
use Prim.Native.Nat.{◌≤◌}
use mathlib.Core.Path.{◌∙◌}
use mir.Syntax.{w16}
use mir.Facts.{to_z_pos}
use Rattle.lines.proofs.Signs.{minus_in, minus_in_16, read_back}
use Rattle.glifread.proofs.Entering.{signed_below, signed_above, signed_out}
use Rattle.glifread.proofs.enter.signed.Goals as goal

pub overflow_cast-result : goal.overflow_cast-result
overflow_cast-result c = let h : c.less-below.result ≤ 32768 = omega (arith, c.less-below.ensures) in search rules

pub overflow_sub-result : goal.overflow_sub-result
overflow_sub-result c = let h : c.less-below.result ≤ 32768 = omega (arith, c.less-below.ensures) in minus_in _ h

pub overflow_cast-result-then-below-gt0 : goal.overflow_cast-result-then-below-gt0
overflow_cast-result-then-below-gt0 c = let h : c.less-below.result ≤ 32768 = omega (arith, c.less-below.ensures) in minus_in_16 _ h

pub returns-then-below-gt0 : goal.returns-then-below-gt0
returns-then-below-gt0 c = let h : c.less-below.result ≤ 32768 = omega (arith, c.less-below.ensures) in read_back _ h ∙ signed_below _ _ _ c.less-below.ensures c.less-above.ensures c.if-below-gt0.true

pub returns-then-above-lt32768 : goal.returns-then-above-lt32768
returns-then-above-lt32768 c = to_z_pos w16 {n = c.less-above.result} (omega arith) ∙ signed_above _ _ _ c.less-below.ensures c.less-above.ensures c.if-below-gt0.false c.if-above-lt32768.true

pub returns : goal.returns
returns c = signed_out _ _ _ c.less-below.ensures c.less-above.ensures c.if-below-gt0.false c.if-above-lt32768.false
