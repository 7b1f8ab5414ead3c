-- What one byte and a portion of a text leave, in the words of the machine and of what waits in the tables.
-- contracts: what the functions ask for and leave
pub mod Waited
pub mod Steps
pub mod Portions
-- laws: what other crates cite
pub mod Follows
-- lemmas: steps of the proofs here
pub mod Kept
