-- What the work's parts ask for and leave (Work), and why (Preparing, Out, Runs).
-- contracts: what the functions ask for and leave
pub mod Work
-- lemmas: steps of the proofs here
pub mod Preparing
pub mod Out
pub mod Runs
