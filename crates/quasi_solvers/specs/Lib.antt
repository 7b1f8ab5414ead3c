-- What a solver asks for and leaves (Calling), and how its pieces make that (Passing).
-- contracts: what the functions ask for and leave
pub mod Calling
-- lemmas: steps of the proofs here
pub mod Passing
