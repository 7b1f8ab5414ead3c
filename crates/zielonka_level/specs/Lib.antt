-- Where a level's sets stand (Level), what the pieces ask for and leave (Steps, Pieces), and why.
-- contracts: what the functions ask for and leave
pub mod Level
pub mod Steps
pub mod Pieces
-- laws: what other crates cite
pub mod PiecesHold
