pub mod Forms
pub mod Inputs
pub mod Kinds
pub mod Laws
