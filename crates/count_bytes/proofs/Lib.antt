pub mod FewerCounts
