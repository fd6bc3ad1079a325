pub mod Job
pub mod Plans
pub mod Asked
