pub mod Breaks
pub mod Laws
pub mod WholeUnits
