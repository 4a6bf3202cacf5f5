pub mod Held
pub mod Summaries
pub mod Sums
pub mod Views
