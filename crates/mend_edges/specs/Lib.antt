-- The new edges, written one after another.
pub mod Edges
