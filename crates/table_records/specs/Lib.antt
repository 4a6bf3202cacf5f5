pub mod Columns
pub mod Laws
pub mod Reading
pub mod Records
pub mod Walk
