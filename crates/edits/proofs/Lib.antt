-- What the proofs of the three edits use.
pub mod Checked
