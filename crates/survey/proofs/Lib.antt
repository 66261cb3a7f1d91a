-- What the proofs share, here and in the crates that build on this one.
pub mod Rooms
pub mod Bounded
pub mod Speeds
pub mod Reach
pub mod Inside
pub mod Many
pub mod Never
pub mod Along
