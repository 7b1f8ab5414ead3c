-- What the solitaire solver's parts ask for and leave, and what follows from its contract.
-- contracts: what the functions ask for and leave
pub mod Checks
pub mod Marking
pub mod Gathering
pub mod Running
-- laws: what other crates cite
pub mod Promises
