pub mod DivisorLemmas
pub mod IntMultipleLemmas
pub mod ChoiceLemmas
pub mod KindLemmas
pub mod LawLemmas
pub mod RowLemmas
pub mod ValueLemmas
pub mod WrittenLemmas
