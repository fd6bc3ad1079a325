pub mod Opened
pub mod Cases
pub mod Countings
pub mod Texts
