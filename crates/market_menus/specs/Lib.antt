pub mod ClashWords
pub mod Limits
pub mod MenusOf
pub mod PairPlaces
pub mod Students
pub mod Wanted
