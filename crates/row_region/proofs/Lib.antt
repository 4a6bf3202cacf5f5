pub mod Numbers
pub mod LiveRows
pub mod Kept
pub mod Filling
pub mod Calls
pub mod Rows
