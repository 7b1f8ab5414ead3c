-- What the work area shows of the rules' state, and what each round makes of it.
-- contracts: what the functions ask for and leave
pub mod RoundPromise
pub mod SolveAll
-- laws: what other crates cite
pub mod Shown
-- lemmas: steps of the proofs here
pub mod WonKept
pub mod Opened
pub mod Filled
pub mod Above
pub mod ClosedRound
pub mod Promoted
pub mod DominionShown
pub mod RoundMade
pub mod Counts
