-- What a set's words hold after each operation (After), digits of a word (Digits), and one bit asked for or put (Single).
-- contracts: what the functions ask for and leave
pub mod After
-- laws: what other crates cite
pub mod Digits
pub mod Single
