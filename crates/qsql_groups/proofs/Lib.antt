pub mod ByGroupLemmas
pub mod GroupLemmas
pub mod PartLemmas
pub mod RowLemmas
pub mod StepLemmas
