-- The list of what was dropped and altered, written entry by entry.
pub mod Listing
