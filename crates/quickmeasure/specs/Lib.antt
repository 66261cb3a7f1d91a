-- Terms, Counting, Early, Ahead and Turned are for contracts inside the product alone: no promise of an entry and no statement for a reader speaks of them.
pub mod Terms
pub mod Counting
pub mod Early
pub mod Ahead
pub mod Turned
pub mod Statements
