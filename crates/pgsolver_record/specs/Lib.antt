-- What the functions that build a record beside the reader go by, and that what they build passes.
-- contracts: what the functions ask for and leave
pub mod Records
-- lemmas: steps of the proofs here
pub mod Passes
pub mod Cut
