-- The text that is written: its length, that the machine passes over it within the limits that it keeps, the records that are
-- read from it and their tables, and so that writing and reading undo each other.
pub mod Lengths
pub mod Entries
pub mod Passes
pub mod Written
pub mod ReadBack
pub mod WorkedWriting
