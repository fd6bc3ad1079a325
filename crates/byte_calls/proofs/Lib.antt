pub mod FewerCells
pub mod Handed
