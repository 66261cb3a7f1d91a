-- What the promises of specs/Calls say of two calls, a file for each module.
pub mod BothEditions
pub mod Cleaning
pub mod FromCubics
pub mod Glif
pub mod Glyph
pub mod IdleControls
pub mod Reasons
pub mod WrittenOut
