pub mod Choices
pub mod Floors
