pub mod Outcome
pub mod Planned
