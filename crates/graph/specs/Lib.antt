pub mod Buckets
pub mod Graph
pub mod Matches
pub mod Rows
