pub mod BelowLemmas
pub mod JournalLemmas
pub mod Keeping
pub mod NameLemmas
pub mod PairLemmas
pub mod PreferenceLemmas
pub mod RatingLemmas
mod Refusals
pub mod RowLemmas
pub mod RowWrites
pub mod SectionLemmas
pub mod SharedLemmas
