-- What the proofs share.
mod Laws
mod Numbers
pub mod Passing
