pub mod Channels
pub mod Chart
