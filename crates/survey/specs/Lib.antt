pub mod Survey
pub mod Laws
pub mod Never
pub mod Along
