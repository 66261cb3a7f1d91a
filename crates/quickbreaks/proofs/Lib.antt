-- What the proofs share.
mod Laws
mod Roots
