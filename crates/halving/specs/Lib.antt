pub mod Exact
pub mod Cubic
pub mod Steps
pub mod Depth
pub mod Statements
