pub mod Least
pub mod Holding
pub mod Exchanges
pub mod Laws
