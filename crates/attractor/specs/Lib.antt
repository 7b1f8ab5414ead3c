-- Why the attractor keeps its promise, which stands in `attractor_word` and is passed on.
pub use Rattle.attractor_word.specs.Attracted
-- lemmas: steps of the proofs here
pub mod Running
pub mod LoopBegins
