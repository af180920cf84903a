pub mod Forms
pub mod Views
pub mod Shapes
pub mod Unbuilt
pub mod Names
