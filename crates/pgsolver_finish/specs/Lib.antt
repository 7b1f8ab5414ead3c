-- What the last step of a reading promises: which list is asked, and what each outcome leaves.
pub mod Finishing
