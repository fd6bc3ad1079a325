pub mod Demands
pub mod CallDemands
pub mod SameGraph
pub mod NoList
pub mod EmptyLink
pub mod FormThree
