-- The layers at first.
-- contracts: what the function asks for and leaves
pub mod LayersBegin
-- steps of the proof
pub mod Marking
