-- The laws of sets that callers cite (Laws, Same, Size), and steps of the proofs (Whole). What the operations promise stands in
-- `set_bits`, and is passed on with the steps of the crates between.
pub use Rattle.set_bits.specs.After
pub use Rattle.set_bits.specs.Digits
pub use Rattle.set_bits.specs.Single
pub use Rattle.set_pairs.specs.Wordwise
pub use Rattle.set_filling.specs.Filling
-- contracts: what the functions ask for and leave
pub mod Size
-- laws: what other crates cite
pub mod Laws
pub mod Whole
pub mod Same
