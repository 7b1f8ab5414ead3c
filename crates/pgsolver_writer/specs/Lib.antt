-- What the writer's functions ask for and put, the laws that their proofs cite, and what callers go by.
pub mod Laws
