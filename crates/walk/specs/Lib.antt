-- What the walk over members promises (Walk), the laws that callers cite (MemberLaws), and its steps (Steps).
-- contracts: what the functions ask for and leave
pub mod Walk
-- laws: what other crates cite
pub mod MemberLaws
pub mod Steps
