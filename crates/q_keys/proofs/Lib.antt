pub mod AscendingLemmas
pub mod RankingLemmas
pub mod KeyLemmas
pub mod CellLemmas
pub mod RowLemmas
