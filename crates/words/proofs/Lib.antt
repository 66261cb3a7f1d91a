-- What the proofs share: a word, a penalty, and the words one after the other. `Theorems` is for the reader.
mod Taking
mod Theorems
