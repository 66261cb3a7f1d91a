-- What the proofs share. From `Apart` on: theorems, for a reader, which no proof of a function uses.
mod Half
mod Turning
mod Writing
mod Apart
mod Again
pub mod Theorems
pub mod Values
