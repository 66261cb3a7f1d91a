-- What the proofs share, here and in `cubics`. From `Linear` on: theorems on the definitions, for a reader, which no proof of a function uses.
pub mod Rounding
pub mod Halving
pub mod Linear
pub mod Depth
