-- What a call asks for and how it ends (Ending), and how far it has come from piece to piece (Calling).
-- contracts: what the functions ask for and leave
pub mod Ending
-- laws: what other crates cite
pub mod Calling
