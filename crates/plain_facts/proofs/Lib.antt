pub mod Truths
pub mod Outcomes
pub mod Lists
pub mod Numbers
