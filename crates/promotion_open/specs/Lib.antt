-- What it is to be open, by the heads of R.
pub mod Opening
