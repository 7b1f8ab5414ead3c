-- One attractor as clauses see it.
-- contracts: what the functions of an attractor are given
pub mod Drawn
