-- Where the rows of the search for parts begin.
pub mod Rows
