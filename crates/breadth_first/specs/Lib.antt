-- What the search and the way that it leaves promise.
-- contracts: what the functions ask for and leave
pub mod Following
pub mod Spreading
pub mod SearchBegins
