-- The marks of all priorities of one parity, and what callers bring: the predecessor table and the game.
pub mod Parity
