pub mod ColumnFacts
pub mod HeaderFacts
pub mod LawFacts
pub mod NameFacts
pub mod RecordFacts
pub mod WalkFacts
