-- From the recursion on all vertices to what the solver writes out (Solving), and what a reader may conclude (Promises).
-- laws: what other crates cite
pub mod Promises
-- lemmas: steps of the proofs here
pub mod Solving
