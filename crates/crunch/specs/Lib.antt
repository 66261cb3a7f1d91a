-- Stands and Steps are for contracts inside the product alone: no promise of an entry and no statement for a reader speaks of them.
pub mod Crunch
pub mod Entry
pub mod Stands
pub mod Steps
pub mod Determine
pub mod Laws
pub mod Cause
pub mod Uncounted
pub mod Written
