-- What the exports state: calls as the contracts have them, laws of their promises, and the theorems.
mod Calls
mod Laws
pub mod Refusing
pub mod Stated
