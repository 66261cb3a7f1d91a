pub mod Puts
pub mod Contours
pub mod Writes
pub mod Entry
pub mod Determine
pub mod Outside
pub mod Texts
pub mod Worked
