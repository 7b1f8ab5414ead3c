-- What the search and the collecting ask for and leave (Parts), what the choice does (Extending), and why.
-- contracts: what the functions ask for and leave
pub mod Parts
pub mod Extending
-- lemmas: steps of the proofs here
pub mod Highest
pub mod Collecting
