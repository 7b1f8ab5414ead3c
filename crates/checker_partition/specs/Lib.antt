-- The kind 21: the test of a bit as the code makes it, and that a search over the bits gives the rule's verdict.
pub mod Partition
