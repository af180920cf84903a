pub mod EncodingLemmas
pub mod LawLemmas
mod OrderLemmas
mod TableLemmas
