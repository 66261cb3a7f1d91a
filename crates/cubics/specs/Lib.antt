-- Making is for contracts inside the product alone: no promise of an entry and no statement for a reader speaks of it.
pub mod Replacing
pub mod Making
pub mod Refusing
pub mod Entry
pub mod Determine
pub mod Statements
