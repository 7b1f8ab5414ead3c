-- Why the door keeps its contract (Answered), and what a reader may conclude (Promises).
-- lemmas: steps of the proofs here
pub mod Answered
pub mod Promises
