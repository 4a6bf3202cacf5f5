pub mod BudgetFacts
pub mod Counts
pub mod OneOrder
pub mod OrderFacts
pub mod OrderLaw
