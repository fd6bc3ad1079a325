pub mod Bounds
pub mod Classes
pub mod Lists
pub mod Cutting
pub mod Filling
