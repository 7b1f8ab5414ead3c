-- The line as both engines' counts give it.
pub mod Line
