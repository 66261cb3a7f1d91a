-- What the proofs share; those that are `pub`, with other crates too. From `Values` on: theorems on the definitions, for a reader, which no function of this crate needs.
pub mod Rounds
mod TwoLengths
mod Bend
mod Values
pub mod Reasons
pub mod Whole
