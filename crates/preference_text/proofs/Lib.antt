pub mod ShortCommands
pub mod Students
