-- How many entries of a list lie in a set, and the counters that say so of each vertex.
-- contracts: what the functions ask for and leave
pub mod Counters
-- laws: what other crates cite
pub mod Tally
