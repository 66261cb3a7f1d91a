-- What the proofs of the functions share.
mod Signs
mod Words
mod Walking
mod Advancing
mod Filling
mod Parts
mod Judging
mod Leaving
