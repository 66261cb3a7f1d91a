pub mod Pick
pub mod Words
pub mod Actions
pub mod Table
pub mod Utf8
pub mod Text
