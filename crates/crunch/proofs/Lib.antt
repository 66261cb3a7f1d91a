-- What the proofs share: the end of a contour, and the entry.
pub mod End
pub mod Whole
pub mod Cause
pub mod Uncounted
pub mod Along
pub mod Written
