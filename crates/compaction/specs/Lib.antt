-- What compaction leaves, by its contract alone: one result, accepted tables, the same winners and answers.
pub mod Laws
