pub mod Codes
pub mod Graph
