pub mod Growing
pub mod Members
pub mod Sizes
pub mod Written
