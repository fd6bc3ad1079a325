pub mod Tests
pub mod Below
pub mod Sets
pub mod Pigeon
pub mod Lists
pub mod Choices
