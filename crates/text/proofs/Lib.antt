pub mod Links
pub mod Holding
pub mod Answers
pub mod Found
pub mod Longer
