-- The mathematics of the proofs, on plain values. Each function's own proof stands in its folder.
-- `Own`, `Exact`, `Nearest`, `Values` and `Constants` have the theorems for a reader, whose statements are types of specs/: Unrounded, Rounding, Worked, Constants.
pub mod Number
mod Sign
mod Saturate
mod Fitting
pub mod Own
pub mod Zeros
mod Whole
pub mod Above
pub mod Squares
pub mod Scaled
pub mod Less
pub mod NearRoot
pub mod NotNegative
pub mod Nearly
pub mod Roots
pub mod Pattern
pub mod Read
pub mod Table
pub mod Constants
pub mod Exact
pub mod Downward
mod Nearest
mod Values
pub mod Dyadic
