-- What the proofs of the functions share, and what the middle of two points is.
mod Entering
mod Leaving
pub mod Middle
