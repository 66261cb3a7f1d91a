-- What the proofs of the functions share, here and in other crates; and the theorems on the layout.
pub mod Rises
pub mod Codes
pub mod Unpacked
pub mod Back
pub mod Box
pub mod Again
pub mod Sound
pub mod After
mod Values
pub mod Long
