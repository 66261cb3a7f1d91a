-- What the proofs share.
mod Steps
pub mod Causes
pub mod Uncounted
