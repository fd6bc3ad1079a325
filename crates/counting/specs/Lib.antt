pub mod Plans
pub mod Outcome
pub mod Kept
pub mod PlansLeft
pub mod FormThree
