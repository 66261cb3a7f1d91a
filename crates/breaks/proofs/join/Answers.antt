-- `breaks::join` meets its contract: a place that opens no break is close to one that is there. Assumes nothing.
use native.Mathlib.Nat.{pos_of_ne-zero}
use native.Mathlib.Omega.{arith}
use mathlib.Core.Path.{sym, ◌∙◌}
use Rattle.breaks.proofs.Laws.{join_opens, not_first, join_replaces, join_keeps}
use Rattle.breaks.proofs.join.Goals as goal

pub returns-then-opens : goal.returns-then-opens
returns-then-opens c =
    record { row = join_opens _ _ c.requires _ _ _ (sym c.opens.ensures ∙ c.if-opens.true) ∙ c.push.ensures.row (λ d. d); count = c.push.ensures.count }

pub overflow_sub-n : goal.overflow_sub-n
overflow_sub-n c = omega (arith, pos_of_ne-zero (not_first _ _ c.requires _ (sym c.opens.ensures ∙ c.if-opens.false)))

pub bounds-row-n : goal.bounds-row-n
bounds-row-n c = omega (arith, pos_of_ne-zero (not_first _ _ c.requires _ (sym c.opens.ensures ∙ c.if-opens.false)))

pub returns-then-dist-p : goal.returns-then-dist-p
returns-then-dist-p c =
    record { row = rw c.packed.ensures (join_replaces _ _ c.requires _ _ _ (sym c.opens.ensures ∙ c.if-opens.false) c.if-dist-p.true); count = c.requires }

pub returns : goal.returns
returns c =
    record { row = join_keeps _ _ c.requires _ _ _ (sym c.opens.ensures ∙ c.if-opens.false) c.if-dist-p.false; count = c.requires }
