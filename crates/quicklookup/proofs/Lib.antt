-- What the proofs share, here and in the crates that build on this one.
pub mod Laws
mod Fraction
mod Guess
