pub mod Explicit
pub mod Entry
pub mod Determine
pub mod Statements
