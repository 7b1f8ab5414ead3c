-- Laws of the plain words that the rules are written in: truth values, numbers, lists, counts, sums. They know no game.
pub mod Basics
pub mod Frame
pub mod Greatest
pub mod Sums
pub mod Digits
