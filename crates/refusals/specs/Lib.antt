pub mod Refusals
pub mod Accepted
pub mod Number
