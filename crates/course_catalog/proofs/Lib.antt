pub mod ClashFacts
pub mod CourseFacts
pub mod Occurrences
