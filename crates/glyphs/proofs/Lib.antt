-- What the proofs of the functions share; from `Some` on: theorems, for a reader.
mod Parts
mod Going
pub mod Writing
mod Reading
pub mod Some
pub mod Sixteen
pub mod Says
pub mod Separately
pub mod Handed
