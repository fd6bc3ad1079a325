pub mod Layers
pub mod Parts
pub mod Pairs
pub mod Asked
pub mod Forms
pub mod Range
