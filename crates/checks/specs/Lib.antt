pub mod Checks
pub mod Entry
pub mod Determine
pub mod Exactly
