-- The kept numbers beside tables that were read, and 9 and 10 of a call that writes them.
-- contracts: what the functions ask for and leave
pub mod Beside
pub mod Rooms
