pub mod Ranks
pub mod Turning
pub mod Passing
pub mod Crowding
pub mod Knowing
