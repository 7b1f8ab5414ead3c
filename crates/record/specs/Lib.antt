-- What callers of the record's checks go by.
-- laws: what other crates cite
pub mod Laws
pub mod ByRecord
