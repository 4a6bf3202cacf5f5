pub mod Turns
pub mod Passes
pub mod After
pub mod Laws
pub mod HeldChoices
pub mod Runs
