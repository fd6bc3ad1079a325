pub mod Choice
pub mod Partition
pub mod Words
