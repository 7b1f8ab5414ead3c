-- The entry of each vertex as it is written out.
pub mod Entries
