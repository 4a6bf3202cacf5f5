pub mod Merging
pub mod StreamCounts
