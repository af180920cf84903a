pub mod AsofLemmas
pub mod FoundLemmas
pub mod JoinLemmas
pub mod JudgeLemmas
pub mod KeyLemmas
pub mod MergeLemmas
pub mod OrderLemmas
pub mod Rules
