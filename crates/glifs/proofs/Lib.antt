-- What the proofs of the functions share, and what is read of a file that was written.
mod Reading
mod Renewing
pub mod Separately
pub mod Back
mod Point
mod Contour
mod Track
mod Flags
mod Whole
mod Written
mod Entered
mod Explicit
mod Again
mod Laid
mod Lying
pub mod Rising
pub mod RoundTrip
pub mod ReadExplicit
pub mod CrunchedAgain
