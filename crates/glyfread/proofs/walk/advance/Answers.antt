-- `glyfread::walk::advance` meets its contract. Assumes nothing.
use mir.Syntax.{w16, w32}
use mir.Val.{SFits}
use mir.Facts.{to_z-of_z}
use native.Mathlib.Omega.{arith}
use mathlib.Core.Path.{sym, ◌∙◌}
use Rattle.glyfread.proofs.Advancing.{no_flag, no_x, no_y, out_x, out_y, advanced, sum_of, sum_in_lem, sum_out}
use Rattle.glyfread.proofs.walk.advance.Goals as goal

pub returns-in_err-next : goal.returns-in_err-next
returns-in_err-next c = rw c.from_residual.ensures (no_flag _ _ (sym c.next_flag.ensures.value ∙ c.in_err-next.was))

pub returns-in_err-dx : goal.returns-in_err-dx
returns-in_err-dx c = rw c.from_residual-in_err-dx.ensures (no_x _ _ (sym c.next_flag.ensures.value ∙ c.in_ok-next.was) c.delta_at.ensures c.bit_of.ensures c.bit_of-2.ensures c.in_err-dx.was)

pub returns-in_err-dy : goal.returns-in_err-dy
returns-in_err-dy c = rw c.from_residual-in_err-dy.ensures (no_y _ _ (sym c.next_flag.ensures.value ∙ c.in_ok-next.was) c.delta_at.ensures c.bit_of.ensures c.bit_of-2.ensures c.in_ok-dx.was
    c.delta_at-2.ensures c.bit_of-3.ensures c.bit_of-4.ensures c.in_err-dy.was)

pub returns-in_err-x : goal.returns-in_err-x
returns-in_err-x c = let wx : SFits w16 c.args.w.x = record { sfits = omega arith } in
    let dx : SFits w32 c.in_ok-dx.dx.value = record { sfits = omega arith } in
    rw c.from_residual-in_err-x.ensures (out_x _ _ (sym c.next_flag.ensures.value ∙ c.in_ok-next.was) c.delta_at.ensures c.bit_of.ensures c.bit_of-2.ensures c.in_ok-dx.was
    (sum_out wx dx c.move_by.ensures c.in_err-x.was))

pub returns-in_err-y : goal.returns-in_err-y
returns-in_err-y c = let wy : SFits w16 c.args.w.y = record { sfits = omega arith } in
    let dy : SFits w32 c.in_ok-dy.dy.value = record { sfits = omega arith } in
    rw c.from_residual-in_err-y.ensures (out_y _ _ (sym c.next_flag.ensures.value ∙ c.in_ok-next.was) c.delta_at.ensures c.bit_of.ensures c.bit_of-2.ensures c.in_ok-dx.was
    c.delta_at-2.ensures c.bit_of-3.ensures c.bit_of-4.ensures c.in_ok-dy.was
    (sum_out wy dy c.move_by-2.ensures c.in_err-y.was))

pub returns : goal.returns
returns c = let wx : SFits w16 c.args.w.x = record { sfits = omega arith } in
    let wy : SFits w16 c.args.w.y = record { sfits = omega arith } in
    let dx : SFits w32 c.in_ok-dx.dx.value = record { sfits = omega arith } in
    let dy : SFits w32 c.in_ok-dy.dy.value = record { sfits = omega arith } in
    advanced _ _ (sym c.next_flag.ensures.value ∙ c.in_ok-next.was) c.delta_at.ensures c.bit_of.ensures c.bit_of-2.ensures c.in_ok-dx.was
    c.delta_at-2.ensures c.bit_of-3.ensures c.bit_of-4.ensures c.in_ok-dy.was
    (to_z-of_z {w = w16} {z = c.in_ok-x.x} (record { sfits = omega arith }) ∙ sum_of wx dx c.move_by.ensures c.in_ok-x.was)
    (to_z-of_z {w = w16} {z = c.in_ok-y.y} (record { sfits = omega arith }) ∙ sum_of wy dy c.move_by-2.ensures c.in_ok-y.was)
    (sum_in_lem wx dx c.move_by.ensures c.in_ok-x.was)
    (sum_in_lem wy dy c.move_by-2.ensures c.in_ok-y.was)
