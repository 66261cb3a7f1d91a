-- What the proofs share, here and in the crates that build on this one. `Values` has theorems on the definition, for a reader.
pub mod Laws
mod Values
