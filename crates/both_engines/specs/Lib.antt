-- What both engines give of one game, and the line that it makes.
pub mod Solved
