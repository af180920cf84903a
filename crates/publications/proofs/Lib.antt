pub mod AnswerLemmas
pub mod ListLemmas
pub mod PlainLemmas
pub mod ToldLemmas
