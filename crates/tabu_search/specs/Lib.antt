pub mod Visits
pub mod Search
pub mod Walks
pub mod Laws
