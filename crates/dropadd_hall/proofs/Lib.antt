pub mod Exactly
pub mod Finals
pub mod Findings
pub mod LineJoins
pub mod Openings
pub mod Requested
