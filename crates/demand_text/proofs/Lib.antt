pub mod LineTexts
pub mod TakenFacts
