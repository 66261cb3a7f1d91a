-- What the proofs share; those that are `pub`, with other crates too. From `Values` on: theorems on the definitions, for a reader, which no proof of a function uses.
mod Pushing
mod Closing
mod Reversal
pub mod Sixteen
mod Dropping
pub mod Copying
mod Values
mod Modulo
pub mod Standard
pub mod Came
mod Walk
pub mod Kept
