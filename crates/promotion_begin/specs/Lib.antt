-- What `begin` asks for and leaves: the first state of priority promotion.
pub mod FirstLevel
