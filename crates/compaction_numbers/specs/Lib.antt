-- Which priorities are used and the numbers given so far, as the code keeps them (Marks), and that they are the rule's (Steps).
-- contracts: what the functions ask for and leave
pub mod Marks
-- laws: what other crates cite
pub mod Steps
