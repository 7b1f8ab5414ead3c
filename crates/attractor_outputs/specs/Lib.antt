-- The strategy and the distances, entry by entry.
pub mod Outputs
