-- The checks 1 to 10, by the lengths that they go by.
pub mod Checks
