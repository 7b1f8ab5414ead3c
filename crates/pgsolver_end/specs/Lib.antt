-- What the end of a text promises: what was found, what it says, and what the outcome leaves in the rooms.
-- contracts: what the functions ask for and leave
pub mod Ending
pub mod Telling
pub mod Told
