-- What the proofs share. From `Through` on: theorems, for a reader, which no proof of a function uses.
mod Making
mod Writing
pub mod Through
pub mod Values
