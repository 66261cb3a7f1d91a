-- What the proofs share. `Signs`, `Climb` and `Still` have theorems for the optimiser.
mod Laws
mod Stored
mod Asked
mod Sure
pub mod Signs
pub mod Climb
mod Ahead
mod Even
mod Clock
mod Valley
mod Slow
mod Anywhere
mod Straight
mod Early
mod NoMore
mod Outset
mod Four
pub mod Spoilt
pub mod Still
