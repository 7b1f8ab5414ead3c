-- What a pass over the tables tells, and that it is all that 4 to 8 ask.
pub mod Well
