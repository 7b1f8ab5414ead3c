-- What the search for a loop asks for and leaves: one priority, and one after another.
pub mod Finding
