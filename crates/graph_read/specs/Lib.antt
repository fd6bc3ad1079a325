pub mod Read
pub mod Graphs
