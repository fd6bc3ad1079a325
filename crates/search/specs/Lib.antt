pub mod Tree
pub mod Setting
pub mod Order
pub mod Limit
pub mod Walk
pub mod Searched
