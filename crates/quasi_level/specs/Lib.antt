-- Where a level's sets stand and what the pieces of a pass ask for and leave (Level), how the passes stand after each
-- (Standing), and why (Pieces).
-- contracts: what the functions ask for and leave
pub mod Standing
pub mod Level
-- laws: what other crates cite
pub mod Pieces
