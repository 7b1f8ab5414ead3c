-- Regions as nested sets (Nesting), where they stand in the work area (Layout, Places), and what of the current one is new (Newcomers).
-- contracts: what the functions ask for and leave
pub mod Layout
-- laws: what other crates cite
pub mod Nesting
pub mod Places
pub mod Newcomers
