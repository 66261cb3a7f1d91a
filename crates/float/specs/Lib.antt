-- Steps is for contracts inside the product alone: no promise of an entry and no statement for a reader speaks of it.
pub mod Numbers
pub mod Float
pub mod Steps
pub mod Rounding
pub mod Unrounded
pub mod Worked
pub mod Constants
pub mod Dyadic
