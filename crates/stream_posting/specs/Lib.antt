pub mod Postings
pub mod Streams
