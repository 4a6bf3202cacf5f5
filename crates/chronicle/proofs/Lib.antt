pub mod HistoryLaws
pub mod ViewLists
pub mod TurnSteps
pub mod Calls
pub mod SeatSteps
pub mod Dealing
pub mod Gathering
pub mod SeatLists
