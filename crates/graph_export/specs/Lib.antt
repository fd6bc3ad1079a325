pub mod Rows
pub mod Gives
