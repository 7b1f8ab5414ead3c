-- What a byte does to the states.
pub mod Moves
