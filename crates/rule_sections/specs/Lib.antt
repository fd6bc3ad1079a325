pub mod Rules
pub mod Read
