pub mod PriceFacts
