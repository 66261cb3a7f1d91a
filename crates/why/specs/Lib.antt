pub mod Tests
pub mod Entry
pub mod Determine
pub mod Statements
