-- What the proofs share. `Examples` has computed cases of equality, `WholeUnits` a theorem, both for a reader: no proof of a function uses them.
mod Single
mod Along
pub mod Examples
pub mod Rule
pub mod WholeUnits
