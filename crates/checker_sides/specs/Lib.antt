-- The kind 23: the tests as the code makes them, and what they tell of a vertex.
pub mod Sides
