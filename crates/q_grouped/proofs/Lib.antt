pub mod GroupLemmas
pub mod TotalLemmas
pub mod KeptLemmas
pub mod RowLemmas
pub mod LawLemmas
pub mod ChosenLemmas
pub mod ExtremeLemmas
