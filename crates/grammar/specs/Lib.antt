-- The machine that reads a text byte by byte, and that it gives what the rules say: without limits it stands exactly where the
-- grammar's pieces say, the limits stop it where the rules do, and a text has one reading.
pub mod Machine
pub mod Free
pub mod Classes
pub mod Pieces
pub mod Standing
pub mod Reaches
pub mod Sound
pub mod Viable
pub mod Limited
pub mod Runs
pub mod Correct
pub mod OneReading
pub mod SoFar
pub mod WorkedText
pub mod Waiting
pub mod Decimals
pub mod DecimalsBack
