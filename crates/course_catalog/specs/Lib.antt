pub mod Catalog
pub mod Courses
pub mod Laws
pub mod Reading
pub mod Refusal
pub mod Sections
