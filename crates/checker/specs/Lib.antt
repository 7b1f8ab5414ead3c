-- What the checker's kinds ask of the lent tables, sets and strategy, and what it promises for every input.
-- contracts: what the functions ask for and leave
pub mod Cycles
pub mod Checks
-- lemmas: steps of the proofs here
pub mod Readers
