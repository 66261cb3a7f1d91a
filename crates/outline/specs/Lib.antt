pub mod Segments
pub mod OpenType
pub mod Laws
pub mod Statements
