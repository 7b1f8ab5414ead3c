-- The predecessor table, the steps that build it, and what they prove of it.
-- contracts: what the functions ask for and leave
pub mod Table
pub mod Stages
-- laws: what other crates cite
pub mod Steps
pub mod Whole
-- lemmas: steps of the proofs here
pub mod Parts
pub mod Times
