pub mod Passing
pub mod Accepting
pub mod Cases
pub mod EveryText
pub mod OrderFindings
pub mod TextDefects
pub mod TreeDefects
