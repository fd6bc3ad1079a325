pub mod Graph
pub mod Matches
pub mod Rows
pub mod Filing
