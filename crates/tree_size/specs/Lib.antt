pub mod Size
pub mod Known
pub mod TreeSizes
