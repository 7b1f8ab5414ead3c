-- Words cleared, filled and copied one after another.
pub mod Filling
