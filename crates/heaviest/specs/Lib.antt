pub mod Words
pub mod Gives
