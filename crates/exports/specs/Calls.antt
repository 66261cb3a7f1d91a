-- A call of each export, with every row and number under its name in include/fontcrunch.h and in its order: what the caller gives, and what is left when the
-- call is over; and what each export promises of them. A file for each module.
pub mod BothEditions
pub mod Cleaning
pub mod FromCubics
pub mod Glif
pub mod Glyph
pub mod IdleControls
pub mod Reasons
pub mod WrittenOut
