-- What the labels of the search tell of the parts (Noting), and that the test for a good part says what the rule says (Good).
-- contracts: what the functions ask for and leave
pub mod Noting
pub mod Good
