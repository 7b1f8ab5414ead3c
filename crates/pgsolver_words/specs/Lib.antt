-- Which word holds what of a reading or of an outcome, and that what was kept is found again.
pub mod Words
