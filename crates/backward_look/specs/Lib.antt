-- What a look backwards asks for and leaves, and the labels and the queue that it works on.
pub mod Seeking
