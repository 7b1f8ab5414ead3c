-- The edges of a vertex by their places, and the lowest-numbered of their ends in a set.
-- contracts: what the functions ask for and leave
pub mod Lowest
-- laws: what other crates cite
pub mod Edges
