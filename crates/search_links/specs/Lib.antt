-- The graph that the searches go by (Graph), what the tests of the code say of its links (Leading), and laws of the rows of words in
-- the work area (Area).
-- contracts: what the functions ask for and leave
pub mod Graph
-- laws: what other crates cite
pub mod Leading
pub mod Area
