pub mod Leasts
pub mod Exchanging
pub mod Raising
