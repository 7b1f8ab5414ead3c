-- What the passes over the words ask for and leave: one law for both.
-- contracts: what the functions ask for and leave
pub mod Without
