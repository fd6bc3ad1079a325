pub mod AtMost
pub mod Takes
pub mod FullGraph
pub mod FullTree
pub mod TreeSizes
pub mod Known
