pub mod Encode
pub mod Cases
pub mod Counting
pub mod Texts
