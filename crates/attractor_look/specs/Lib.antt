-- The attractor's state (State), what one look makes of it (Growth, Looks), and how it stands in the work area (InArea, InAreaLaws).
-- contracts: what the functions ask for and leave
pub mod State
pub mod InArea
-- laws: what other crates cite
pub mod Growth
pub mod Looks
pub mod InAreaLaws
