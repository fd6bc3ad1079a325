pub mod Accepted
pub mod Outcomes
pub mod Found
pub mod Tellings
