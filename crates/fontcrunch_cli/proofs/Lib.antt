-- What the proofs share: the output while the input comes in chunks. `Chunks` has the theorem for the reader.
mod Streaming
mod Chunks
