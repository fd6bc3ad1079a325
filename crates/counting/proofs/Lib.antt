pub mod Counts
pub mod Outcomes
pub mod Tellings
pub mod PlansLeft
pub mod FormThree
