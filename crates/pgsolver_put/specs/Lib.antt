-- What a text holds when a whole game is put into it.
pub mod Texts
