pub mod Wrote
pub mod Puts
