pub mod Calls
pub mod Counts
pub mod Disk
pub mod Link
pub mod Told
pub use Rattle.q_values.specs.Limits
pub mod Tap
