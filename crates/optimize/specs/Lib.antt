-- Steps and Marks are for contracts inside the product alone: no promise of an entry and no statement for a reader speaks of them.
pub mod Tally
pub mod Optimize
pub mod Fallen
pub mod Stored
pub mod Steps
pub mod Marks
pub mod Laws
pub mod Trace
pub mod Unchanged
pub mod WholeUnits
pub mod Controls
pub mod Seen
