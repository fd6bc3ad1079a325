pub mod Pairing
pub mod Ruling
pub mod Marking
pub mod Writing
pub mod PairWriting
