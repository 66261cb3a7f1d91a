-- What the proofs share. From `Values` on: worked values, and W1's theorems.
mod Walking
mod Numbers
mod Told
mod Values
mod Zero
mod Theorems
