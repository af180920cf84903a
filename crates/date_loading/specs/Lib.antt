pub mod Differences
pub mod Laws
pub mod Loading
pub mod Logs
pub mod Manifests
pub mod Refusals
