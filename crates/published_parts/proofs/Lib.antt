pub mod OneJournals
pub mod OneCrowds
pub mod OneBests
pub mod LowerFirst
pub mod Asked
pub mod Passing
pub mod Resting
pub mod HeldAfter
