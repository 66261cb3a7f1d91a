-- What the proofs share; those that are `pub`, with other crates too. `Outline`: a theorem on the definitions, for a reader, which no function of this crate
-- needs.
mod Laws
pub mod Outline
