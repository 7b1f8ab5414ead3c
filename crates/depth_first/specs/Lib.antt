-- What the first pass asks for and leaves: a move of the search, and the search from one root after another.
-- contracts: what the functions ask for and leave
pub mod Walking
-- lemmas: steps of the proofs here
pub mod Pass
