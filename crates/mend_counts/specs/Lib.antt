-- What is kept and dropped of a vertex's edges, one vertex after another.
-- contracts: what the functions ask for and leave
pub mod Bare
-- laws: what other crates cite
pub mod Placed
pub mod Steps
