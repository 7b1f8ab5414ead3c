-- What the search for the highest level asks for (Escapes) and finds (Highest), and what that is in the words of the regions (ByRegions).
-- contracts: what the functions ask for and leave
pub mod Highest
pub mod Escapes
-- laws: what other crates cite
pub mod ByRegions
