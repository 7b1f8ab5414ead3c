-- What a state by value and the tables stand for while a text comes in portions, and what one portion more makes of that.
pub mod Reached
