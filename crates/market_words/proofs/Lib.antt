pub mod Calls
pub mod OneForm
pub mod WordLists
