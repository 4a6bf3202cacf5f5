pub mod Catalogs
pub mod Laws
pub mod Lines
pub mod Rolls
pub mod Sessions
pub mod Settings
