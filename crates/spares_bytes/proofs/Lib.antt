pub mod Bits
pub mod FewerPlaces
