-- What the proofs share, here and in the crates that build on this one. `WholeUnits` has theorems for a reader, the chains and the optimiser: no proof
-- of a function uses it.
pub mod Laws
pub mod WholeUnits
