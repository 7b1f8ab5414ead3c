-- What the steps that put tables in order promise, and what each does.
-- contracts: what the functions ask for and leave
pub mod Promises
-- laws: what other crates cite
pub mod Once
pub mod Steps
