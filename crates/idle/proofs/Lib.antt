-- What the proofs share. `Theorems`, `Drawn`, `Whole` and `Back` have the theorems for a reader, whose statements are types of specs/Statements.
mod Places
mod Sifting
mod Restoring
mod Neighbours
mod Theorems
mod Drawn
mod Whole
mod Back
