-- What the proofs share, here and in `quicksamples`.
pub mod Turns
