-- What stays of the levels (Kept), what the steps of a round do to their words (LevelBegins, Descending), and what that does to
-- the regions (Pulled, Going, Lowered, Afresh). The regions as nested sets and the passes over words are passed on.
pub use Rattle.promotion_places.specs.Nesting
pub use Rattle.promotion_places.specs.Layout
pub use Rattle.promotion_places.specs.Places
pub use Rattle.promotion_places.specs.Newcomers
pub use Rattle.promotion_sets.specs.Forgetting
-- contracts: what the functions ask for and leave
pub mod LevelBegins
pub mod Descending
-- laws: what other crates cite
pub mod Kept
pub mod Pulled
pub mod Going
pub mod Lowered
pub mod Afresh
