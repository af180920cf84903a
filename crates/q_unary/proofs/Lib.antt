pub mod AggregateLemmas
pub mod DistinctLemmas
pub mod ExtremeLemmas
pub mod JoinLemmas
pub mod LawLemmas
pub mod LeastLemmas
pub mod OneSideLemmas
pub mod TotalLemmas
