mod PartLemmas
pub mod ShortLemmas
pub mod ColumnLemmas
pub mod ListLemmas
pub mod OrderLemmas
pub mod ArenaLemmas
pub mod TreeLemmas
