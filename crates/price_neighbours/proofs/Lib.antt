pub mod OnceFacts
pub mod Ranges
pub mod Leasts
pub mod Stepping
pub mod Distinctness
pub mod Pairs
pub mod Moves
pub mod Neighbourhoods
