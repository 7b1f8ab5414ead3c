-- What the code's states mean in the words of the machine, and what a byte asks for.
-- contracts: what the functions ask for and leave
pub mod Shown
pub mod Acts
-- lemmas: steps of the proofs here
pub mod Classes
