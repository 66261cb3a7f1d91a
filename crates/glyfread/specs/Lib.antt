pub mod Steps
pub mod Walks
pub mod Reads
pub mod Entry
pub mod Determine
