pub mod Valid
pub mod Fallen
pub mod Laws
pub mod Rule
pub mod WholeUnits
