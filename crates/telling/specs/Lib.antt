-- What the doors tell.
pub mod Doors
