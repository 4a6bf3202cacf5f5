pub mod Due
pub mod Finding
pub mod Laws
pub mod Lines
pub mod Publications
pub mod Tables
pub mod Texts
pub mod Views
