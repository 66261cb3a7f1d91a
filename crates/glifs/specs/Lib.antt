-- Stands is for contracts inside the product alone: no promise of an entry and no statement for a reader speaks of it.
pub mod Glifs
pub mod Stands
pub mod Entry
pub mod Determine
pub mod Separately
pub mod Back
