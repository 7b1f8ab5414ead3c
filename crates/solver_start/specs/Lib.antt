-- The work area at first.
pub mod Preparing
