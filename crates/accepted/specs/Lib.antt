-- What tables that pass document 01's checks hold, as plain facts, and the game that they stand for.
pub mod Tables
