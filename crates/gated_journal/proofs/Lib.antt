pub mod Appends
pub mod Calls
pub mod Durable
pub mod Gates
pub mod Halves
pub mod Images
pub mod Layouts
pub mod Loads
pub mod Moments
pub mod Reach
pub mod Reading
pub mod Scans
pub mod Spans
pub mod Unique
mod AppendSteps
