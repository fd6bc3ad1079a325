pub mod Sheet
pub mod Read
pub mod Refusal
pub mod Accepted
