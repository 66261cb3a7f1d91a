-- Steps is for contracts inside the product alone: no promise of an entry and no statement for a reader speaks of it.
pub mod Line
pub mod Text
pub mod Steps
pub mod Stream
pub mod Answer
pub mod Statements
