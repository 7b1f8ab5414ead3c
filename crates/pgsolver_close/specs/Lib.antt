-- What the end makes of the words and the tables, and that cutting a text anywhere changes nothing.
-- contracts: what the functions ask for and leave
pub mod Ending
-- laws: what other crates cite
pub mod Checks
pub mod Cut
