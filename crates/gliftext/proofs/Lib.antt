-- What the proofs of the functions share; tests taken apart; and what is looked at of what is remembered.
mod Tables
pub mod Picks
pub mod Doing
pub mod Live
