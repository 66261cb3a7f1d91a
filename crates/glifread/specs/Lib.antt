pub mod Enter
pub mod Reads
pub mod Entry
pub mod Determine
pub mod Middles
pub mod Worked
