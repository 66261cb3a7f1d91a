-- What the proofs of the functions share.
mod Orders
mod Putting
mod Taking
mod Coding
mod Running
mod Outer
mod Writing
