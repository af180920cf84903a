mod ReadingLemmas
pub mod SentLemmas
