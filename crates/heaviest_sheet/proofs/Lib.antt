pub mod Links
pub mod FewPairs
pub mod Full
pub mod Sizes
pub mod Heaviest
