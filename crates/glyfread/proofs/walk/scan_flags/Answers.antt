use native.Mathlib.Omega.{arith}
use mathlib.Core.Path.{sym, ◌∙◌, subst}
use Rattle.glyfread.specs.Steps.{FlagWithin}
use Rattle.glyfread.proofs.Walking.{scan_start, scan_cut, scan_more, scan_end}
use Rattle.glyfread.proofs.walk.scan_flags.Goals as goal

pub loop-i-init : goal.loop-i-init
loop-i-init c = scan_start _ _ _ c.requires.0

pub returns-in_err-next : goal.returns-in_err-next
returns-in_err-next c = rw c.from_residual.ensures (record { scan_within = tt; value = scan_cut c.loop-i.invariant c.loop-i-test.true (sym c.next_flag.ensures.value ∙ c.in_err-next.was) })

pub loop-i-preserved : goal.loop-i-preserved
loop-i-preserved c = scan_more c.loop-i.invariant c.loop-i-test.true (sym c.next_flag.ensures.value ∙ c.in_ok-next.was) (subst (FlagWithin _) c.in_ok-next.was (c.next_flag.ensures.flag_within c.loop-i.invariant.inside))
    c.width-wide_x.ensures.value c.bit_of.ensures c.bit_of-in-loop-i.ensures
    c.width-wide_y.ensures.value c.bit_of-in-loop-i-2.ensures c.bit_of-in-loop-i-3.ensures

pub returns : goal.returns
returns c = record { scan_within = (c.loop-i.invariant.inside, omega (arith, c.loop-i.invariant.x_bytes, c.loop-i.invariant.passed), omega (arith, c.loop-i.invariant.y_bytes, c.loop-i.invariant.passed)); value = scan_end c.loop-i.invariant c.loop-i-test.false }
