-- What the proofs of the functions share; `Texts` and `Parts` also with the programs.
pub mod Texts
mod Digits
mod Words
pub mod Reading
pub mod Signs
mod Parsing
pub mod Feeding
mod Answers
pub mod Parts
pub mod Theorems
mod Values
