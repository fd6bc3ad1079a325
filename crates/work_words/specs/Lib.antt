pub mod Layout
pub mod Classes
pub mod Filled
