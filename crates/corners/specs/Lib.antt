pub mod Corners
pub mod Statements
