-- What the proofs use: one turn of the listing, run k by its corners. From `Values` on: worked values, and theorems for a reader.
mod Listing
mod Values
mod Numbered
mod Covered
pub mod Few
pub mod Strict
