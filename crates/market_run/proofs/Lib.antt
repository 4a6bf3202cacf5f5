pub mod HeldFacts
pub mod SomeOutcomes
pub mod TenLines
pub mod Totals
pub mod Worths
