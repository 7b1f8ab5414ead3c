-- One member taken: that it is one of the rules' steps (Taking), what that makes of a layer (Layers), and over the work area (TakeLoop).
-- contracts: what the functions ask for and leave
pub mod TakeLoop
-- laws: what other crates cite
pub mod Taking
pub mod Layers
