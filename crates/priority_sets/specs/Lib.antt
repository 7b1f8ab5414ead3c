-- What the sets of the priorities are, how they are made vertex by vertex, and where they stand.
-- contracts: what the functions ask for and leave
pub mod Sorting
