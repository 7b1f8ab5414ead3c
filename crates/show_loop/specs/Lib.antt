-- What the function that shows a loop asks of its parts, and what follows from its contract.
-- contracts: what the functions ask for and leave
pub mod Checks
pub mod Writing
pub mod Running
-- lemmas: steps of the proofs here
pub mod Promises
