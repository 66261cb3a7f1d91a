-- What the proofs share: one edition's step, its runs in order, and the whole of it; then the theorems.
mod Steps
mod Going
mod Alone
mod Whole
pub mod Isolation
pub mod Refused
