-- What the general solvers share: the work area at first, passed on from `solver_start`, a run under a budget, what is written out, and
-- what follows from a contract.
pub use Rattle.solver_start.specs.Preparing
-- contracts: what the functions ask for and leave
pub mod Unsolved
pub mod Outputs
-- laws: what other crates cite
pub mod Running
pub mod Promises
