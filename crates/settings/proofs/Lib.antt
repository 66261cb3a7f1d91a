pub mod Judging
mod Penalty
