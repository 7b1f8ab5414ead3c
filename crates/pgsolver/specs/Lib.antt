-- A whole text is a start, one portion and the end.
pub mod Reading
