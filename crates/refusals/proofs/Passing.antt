-- What a `?` hands up is the refusal that it met. Assumes nothing.
use Rattle.std.specs.Prelude.{◌≡◌, Result, Ok, Err, IsErrAnd}
use Rattle.std.proofs.Common.{ap}
use Rattle.refusals.specs.declared.refusal.Refusal.{Refusal}

pub handed_up : {T : Type 0} (r : Result T Refusal) (k : Refusal) → IsErrAnd r (λ e. e ≡ k) → r ≡ Err k
handed_up (Ok x) k h = absurd h
handed_up (Err e) k h = ap Err h
