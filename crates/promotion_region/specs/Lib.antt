-- What `query` asks for and leaves, and why.
pub mod Query
-- laws: the newcomers alone leave the entries that all of the region would, and both ways to draw R in leave it
pub mod Joined
pub mod Drawn
