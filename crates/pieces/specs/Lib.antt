pub mod Pieces
pub mod Slots
pub mod Statements
