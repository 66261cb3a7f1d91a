-- Puts, Differences, Runs and Outermost are for contracts inside the product alone: no promise of an entry and no statement for a reader speaks of them.
pub mod Puts
pub mod Differences
pub mod Runs
pub mod Outermost
pub mod Writes
pub mod Entry
pub mod Determine
