pub mod LeastFirst
pub mod Courses
pub mod Ends
pub mod Batches
pub mod Candidates
pub mod Windows
pub mod Walks
