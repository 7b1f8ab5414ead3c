-- Bytes that are put from a place on, the digits of a number and the winners among them.
-- contracts: what the functions ask for and leave
pub mod Puts
-- laws: what other crates cite
pub mod Winners
-- lemmas: steps of the proofs here
pub mod Digits
