-- The checks 1 to 10 with the larger work area (Checks), from the recursion on all vertices to what the public solver leaves
-- (Running), and what its contract fixes (Promises).
-- contracts: what the functions ask for and leave
pub mod Checks
pub mod Running
-- lemmas: steps of the proofs here
pub mod Promises
