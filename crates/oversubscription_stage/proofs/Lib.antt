pub mod Finding
pub mod Raises
pub mod Eliminations
