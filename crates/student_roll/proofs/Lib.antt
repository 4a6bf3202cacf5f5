pub mod SingleRoll
pub mod RollNames
