-- Steps is for contracts inside the product alone: no promise of an entry and no statement for a reader speaks of it.
pub mod Chains
pub mod Spans
pub mod Determine
pub mod Entry
pub mod Steps
pub mod Good
pub mod Own
pub mod Replaced
pub mod Points
pub mod Controls
