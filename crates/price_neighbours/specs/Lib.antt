pub mod Distinct
pub mod Neighbours
pub mod Asked
pub mod Laws
