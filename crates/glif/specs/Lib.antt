pub mod Tree
pub mod Names
pub mod Outline
pub mod Scan
