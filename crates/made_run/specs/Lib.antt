pub mod Apart
pub mod Laws
pub mod Made
pub mod Settings
pub mod Streams
pub mod Tables
