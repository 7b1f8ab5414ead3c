-- The search that begins at the vertices of exactly p that a row of words marks.
pub mod Heads
