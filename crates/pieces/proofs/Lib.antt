-- What the proofs share: pieces in a chain, answers that are valid chains, the attempts that keep them so, and what the checker says of the last;
-- then the stored answers that the links lead through.
mod Chained
mod Phases
pub mod Accepted
pub mod Within
mod Slots
mod Going
mod Whole
pub mod Drawn
