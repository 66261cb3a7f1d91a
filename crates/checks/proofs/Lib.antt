-- What the proofs share; and, for a reader, what a yes, a no and an 8 say.
mod Steps
pub mod Exactly
