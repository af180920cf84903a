pub mod FitLemmas
pub mod FrameRules
pub mod GroupFit
pub mod GroupLemmas
pub mod ReadyLemmas
pub mod TableLemmas
