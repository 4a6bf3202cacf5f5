pub mod Beginnings
pub mod Endings
pub mod Histories
pub mod Keeping
pub mod Marking
pub mod Returning
pub mod SeatTurns
pub mod Stepping
