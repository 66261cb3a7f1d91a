-- Stands is for contracts inside the product alone: no promise of an entry and no statement for a reader speaks of it.
pub mod Editions
pub mod Stands
pub mod Entry
pub mod Determine
pub mod Isolation
pub mod Refused
