-- What the proofs of the functions share, and what a written file is made of.
mod Putting
mod Copying
pub mod Outside
pub mod Texts
