-- The refusals of the rules, law by law: their order, the counts that they give, and the kept numbers beside a reading.
pub mod Order
pub mod Counts
