mod ClashFacts
mod EachMenu
pub mod OneMenus
mod Orders
mod PairFacts
mod PlaceFacts
mod StudentFacts
pub mod WantedFacts
mod WordBits
