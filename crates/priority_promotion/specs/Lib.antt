-- Where the promotion's tables stand in the work area, what each function asks for and leaves behind, and what a reader may conclude.
-- laws: what other crates cite
pub mod Promises
-- lemmas: steps of the proofs here
pub mod FirstState
pub mod Running
