-- What the edits go by.
pub mod Laws
