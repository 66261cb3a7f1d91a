-- `glyfread::walk::next_flag` meets its contract. Assumes nothing.
use native.Mathlib.Omega.{arith}
use mathlib.Core.Path.{sym, ◌∙◌}
use Rattle.glyfread.proofs.Walking.{still_due, no_flag, plain_flag, no_count, counted_flag}
use Rattle.glyfread.proofs.walk.next_flag.Goals as goal

pub returns-then-due-gt0 : goal.returns-then-due-gt0
returns-then-due-gt0 c = record { flag_within = λ h. h; value = still_due _ _ _ _ c.if-due-gt0.true }

pub returns-then-bytes-at : goal.returns-then-bytes-at
returns-then-bytes-at c = record { flag_within = λ h. tt; value = no_flag _ _ _ _ c.if-due-gt0.false c.if-bytes-at.true }

pub returns-then-bytes-next : goal.returns-then-bytes-next
returns-then-bytes-next c = record { flag_within = λ h. tt; value = no_count _ _ _ _ c.if-due-gt0.false c.if-bytes-at.false (sym c.bit_of.ensures ∙ c.if-bit_of.true) c.if-bytes-next.true }

pub returns-then-bit_of : goal.returns-then-bit_of
returns-then-bit_of c = record { flag_within = λ h. omega arith; value = counted_flag _ _ _ _ c.if-due-gt0.false c.if-bytes-at.false (sym c.bit_of.ensures ∙ c.if-bit_of.true) c.if-bytes-next.false }

pub returns : goal.returns
returns c = record { flag_within = λ h. omega arith; value = plain_flag _ _ _ _ c.if-due-gt0.false c.if-bytes-at.false (sym c.bit_of.ensures ∙ c.if-bit_of.false) }
