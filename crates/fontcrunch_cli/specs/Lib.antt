pub mod Output
pub mod Stream
