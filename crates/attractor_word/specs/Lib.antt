-- What the attractor promises (Attracted), what holds while a layer is taken (Going), and one word of a layer (OneWord).
-- contracts: what the functions ask for and leave
pub mod OneWord
-- laws: what other crates cite
pub mod Attracted
pub mod Going
