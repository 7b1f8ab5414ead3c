-- What the checks at the two ends of reading say, and what cleared tables hold.
-- contracts: what the functions ask for and leave
pub mod Said
pub mod Cleared
