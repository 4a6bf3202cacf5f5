pub mod Fronts
pub mod Images
pub mod NameLists
pub mod Orders
mod Padding
pub mod Parts
mod SectionCalls
mod Spelling
pub mod Sums
pub mod Memberships
