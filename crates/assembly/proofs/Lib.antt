-- What the proofs share: one run; the runs in order.
pub mod Run
pub mod Going
