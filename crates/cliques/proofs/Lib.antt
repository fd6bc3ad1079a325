pub mod Graph
pub mod Listing
pub mod Words
pub mod Extend
