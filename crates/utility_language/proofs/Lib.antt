pub mod Digits
pub mod LineLemmas
pub mod Printed
pub mod Rooms
pub mod Spellings
pub mod StreamLemmas
pub mod WordLemmas
