-- What the proofs share: the answer to a contour; the answer to a line.
mod Answers
mod Bytes
mod Lines
