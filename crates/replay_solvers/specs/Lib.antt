-- What no difference means of the oracle's words, and that the doors' contracts give it.
pub mod Agrees
