pub mod CopyLemmas
pub mod DiskLemmas
pub mod FileLemmas
pub mod PiecesLemmas
pub mod PlaceLemmas
