-- What the moves of a closed region ask for and leave, and why.
-- contracts: what the functions ask for and leave
pub mod Filling
pub mod Promotion
pub mod Dominion
