pub mod AfterOrder
pub mod Budgets
pub mod Laws
pub mod Ranks
