-- What the proofs share.
mod Going
mod Numbers
