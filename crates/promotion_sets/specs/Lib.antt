-- What the pass over a set whose members lose their entries asks for and leaves. One set without another is passed on.
pub use Rattle.set_difference.specs.Without
-- contracts: what the functions ask for and leave
pub mod Forgetting
