-- The stages of the search joined: from a lent work area to the row of marks.
pub mod Whole
