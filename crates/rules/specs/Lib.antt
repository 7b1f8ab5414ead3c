-- The rules: a file for each idea of document 01, each after those that it uses. A reader who believes these
-- definitions can trust the rest to the prover.
pub mod Counting
pub mod Outcome
pub mod Game
pub mod Tables
pub mod Record
pub mod Words
pub mod Winning
pub mod Attractor
pub mod Distance
pub mod Zielonka
pub mod Budget
pub mod Promotion
pub mod Solver
pub mod Attracts
pub mod Solitaire
pub mod SecondOpinion
pub mod Checker
pub mod Compaction
pub mod Pgsolver
pub mod Reading
pub mod Portions
pub mod Decimal
pub mod Writing
pub mod Printing
pub mod Mending
pub mod Loop
