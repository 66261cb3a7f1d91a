-- What the steps of the quick root hand to each other.
pub mod Quick
