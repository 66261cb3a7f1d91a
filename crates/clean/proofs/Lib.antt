-- What the proofs share; those that are `pub`, with `idle` too. `Theorems` and `Back` have the theorems for a reader, whose statements are types of
-- specs/Statements.
pub mod Shortcut
mod Ended
mod Inserting
pub mod Passing
pub mod Sweeping
pub mod Restoring
pub mod Theorems
pub mod Back
