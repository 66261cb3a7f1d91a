-- What the proofs of the functions share; the reader without places, and two such that go along; what a byte does to the open elements.
mod Naming
pub mod Passing
pub mod Stems
pub mod Like
pub mod Ways
