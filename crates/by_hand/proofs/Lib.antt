-- What proofs by hand share, whatever function they are of.
pub mod Walk
