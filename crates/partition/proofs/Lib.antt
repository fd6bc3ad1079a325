pub mod Partition
pub mod Choice
pub mod Members
pub mod Testing
pub mod Order
pub mod Filling
