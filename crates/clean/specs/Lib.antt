pub mod Clean
pub mod Pass
pub mod PutBack
pub mod Entry
pub mod Determine
pub mod Statements
