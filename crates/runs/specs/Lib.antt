pub mod Runs
pub mod Laws
pub mod Numbered
pub mod Covered
