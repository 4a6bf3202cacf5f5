pub mod Deciding
pub mod Numbering
pub mod Tallying
