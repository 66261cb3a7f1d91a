-- The statement of `why` determines the answer. No row is lent to be written, so equal orders have equal answers at once. Assumes nothing.
use Rattle.std.specs.Prelude.{ℕ, ◌≡◌, Result}
use Rattle.std.proofs.Common.{sym, ◌∙◌}
use Rattle.refusals.specs.declared.refusal.Refusal.{Refusal}
use Rattle.why.specs.declared.Marks.{Marks}
use Rattle.rows.specs.Lent.{Inputs}
use Rattle.why.specs.Entry.{Promise}

pub determined : {i : Inputs} {k : ℕ} {r r' : Result Marks Refusal} → Promise i k r → Promise i k r' → r ≡ r'
determined p p' = p.answer ∙ sym p'.answer

-- two orders of one contour and one index
pub equal_orders : {i i' : Inputs} {k k' : ℕ} {r r' : Result Marks Refusal} → i ≡ i' → k ≡ k' → Promise i k r → Promise i' k' r' → r ≡ r'
equal_orders e f p p' = p.answer ∙ rw (e, f) (sym p'.answer)
