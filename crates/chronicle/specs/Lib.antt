pub mod History
pub mod Members
pub mod Rule
pub mod Seats
pub mod Turn
pub mod Views
