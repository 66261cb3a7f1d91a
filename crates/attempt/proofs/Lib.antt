-- What the proofs share, leaves first: a sum that does not fall; an answer against an attempt.
mod Order
mod Against
