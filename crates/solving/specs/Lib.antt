-- What a reading in A1's rooms says of the line, and that the first bytes of a long input say it all.
-- lemmas: steps of the proofs here
pub mod Texts
pub mod Front
