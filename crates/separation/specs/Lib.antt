-- The quasi-polynomial recursion of Parys, law by law: the core of a dominion, sets that part the small dominions of the two
-- players, the stages of a solver, and the winning sets at full precision.
pub mod Core
pub mod Separates
pub mod Passing
pub mod Stages
pub mod Opinion
