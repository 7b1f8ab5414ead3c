-- What the words of a state and the tables stand for, and what start and a portion make of that.
-- contracts: what the functions ask for and leave
pub mod Stands
-- laws: what other crates cite
pub mod Calls
