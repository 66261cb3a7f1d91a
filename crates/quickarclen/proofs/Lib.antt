-- What the proofs share, here and in the crates that build on this one.
pub mod Laws
mod Walking
pub mod Filling
pub mod Times
pub mod Straight
