-- What the arguments ask for, and what became of the printed lines when the default budget became smaller.
-- contracts: what the functions ask for and leave
pub mod Asking
-- lemmas: steps of the proofs here
pub mod SmallerBudget
