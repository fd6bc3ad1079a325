pub mod Spans
pub mod Strikes
pub mod Sides
