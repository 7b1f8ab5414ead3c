-- What mending's steps promise one another, and what follows from its contract.
pub mod Laws
