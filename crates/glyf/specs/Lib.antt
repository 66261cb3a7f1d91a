pub mod Layout
pub mod Trips
pub mod After
pub mod Long
