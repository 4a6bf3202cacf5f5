pub mod Freeing
pub mod Gets
pub mod Holding
