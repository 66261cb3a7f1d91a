pub mod Exports
pub mod Determine
pub mod Accepted
pub mod Table
pub mod Handed
pub mod Calls
pub mod Solved
pub mod Wrong
