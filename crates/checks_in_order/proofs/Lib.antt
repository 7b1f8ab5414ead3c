-- What the check of the lengths leaves of them.
pub mod Lengths
