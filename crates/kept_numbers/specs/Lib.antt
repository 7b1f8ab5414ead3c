-- What the counting steps promise one another, and what their loops do in one turn; what a solver reads from the kept numbers.
-- contracts: what the functions ask for and leave
pub mod Steps
-- laws: what other crates cite
pub mod Reading
