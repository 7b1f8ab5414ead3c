-- Where things stand in the work area, and the laws of parts, sets and walks in it.
-- contracts: what the functions ask for and leave
pub mod Area
pub mod EdgesOf
-- laws: what other crates cite
pub mod Regions
pub mod Lent
pub mod SetsAt
pub mod Walking
pub mod Walked
pub mod Sizes
