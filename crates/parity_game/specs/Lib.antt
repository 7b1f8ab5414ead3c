-- What the code's own types mean in the words of the rules, and the laws that the checks and their callers go by.
-- contracts: what the functions ask for and leave
pub mod Said
-- laws: what other crates cite
pub mod Search
pub mod Laws
