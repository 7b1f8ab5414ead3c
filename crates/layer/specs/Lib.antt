-- The words of a layer, and what each operation makes of them.
-- contracts: what the functions ask for and leave
pub mod Layer
-- laws: what other crates cite
pub mod Lowest
pub mod Laws
