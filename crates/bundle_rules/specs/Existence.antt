-- Why every menu has exactly one best bundle. Lemmas alone: `Best` names the bundle that they show
-- to exist.
pub mod Members
pub mod Orders
pub mod Fronts
pub mod Extending
pub mod Decisions
pub mod Places
pub mod Demands
