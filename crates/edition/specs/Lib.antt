pub mod Edition
pub mod Laws
pub mod Scratch
pub mod Causes
pub mod Uncounted
