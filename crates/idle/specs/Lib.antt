pub mod Idle
pub mod PutBack
pub mod Entry
pub mod Outline
pub mod Determine
pub mod Statements
