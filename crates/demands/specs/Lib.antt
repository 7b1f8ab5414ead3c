-- The demands, of the doors' own contracts.
pub mod Demands
