-- The kind 22, and 25 in its place: the tests as the code makes them, and what they tell of a vertex. Laws of a vertex's edges in the
-- table of targets serve the kind 23 too.
pub mod Entries
