-- What the writer's functions ask of the tables (Written), and what a text holds when targets and records are put into it.
-- contracts: what the functions ask for and leave
pub mod Records
-- laws: what other crates cite
pub mod Written
-- lemmas: steps of the proofs here
pub mod Targets
