pub mod Bits
pub mod Words
pub mod Least
pub mod Count
