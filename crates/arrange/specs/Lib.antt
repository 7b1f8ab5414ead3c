-- Why the tables are in order afterwards, and what callers go by.
-- laws: what other crates cite
pub mod Laws
-- lemmas: steps of the proofs here
pub mod Placing
pub mod Ordering
