-- Two sets combined word by word, up to each word and whole.
pub mod Wordwise
