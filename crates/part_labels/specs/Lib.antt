-- The search for one part, from its root to its end, and the parts one after another.
pub mod Finding
