pub mod MapLemmas
pub mod NumberLemmas
pub mod OrderLemmas
pub mod SideLemmas
pub mod TextLemmas
pub mod WorthLemmas
pub mod WrapLemmas
pub mod ZipLemmas
