-- What the checks of the public attractor ask for and give (Door), and their laws (DoorLaws).
-- contracts: what the functions ask for and leave
pub mod Door
-- laws: what other crates cite
pub mod DoorLaws
