pub mod Table
pub mod Spares
pub mod Tells
