-- What one layer asks for and leaves (OneLayer), and why the run goes on from word to word (WordByWord).
-- contracts: what the function asks for and leaves
pub mod OneLayer
-- lemmas: steps of the proofs here
pub mod WordByWord
