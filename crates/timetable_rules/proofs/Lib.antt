pub mod DayFacts
pub mod Guesses
pub mod PartsText
pub mod Pieces
pub mod Relations
pub mod SectionRows
