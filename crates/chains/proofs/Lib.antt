-- What the proofs share.
mod Spans
mod Steps
mod Solved
pub mod Good
pub mod Own
pub mod Replaced
pub mod Points
pub mod Controls
