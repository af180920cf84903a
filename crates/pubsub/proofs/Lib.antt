pub mod BatchLemmas
pub mod FilterLemmas
pub mod LineLemmas
pub mod RowLemmas
pub mod SetLemmas
pub mod TableLemmas
pub mod TellLemmas
