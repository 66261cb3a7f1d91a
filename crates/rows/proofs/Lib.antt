-- What other crates use too: the law that the proof of every loop over a row cites, and 16-bit numbers at every place.
pub mod Filled
pub mod Sixteen
