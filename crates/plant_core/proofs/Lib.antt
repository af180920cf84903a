pub mod LoadLemmas
pub mod LogLemmas
pub mod ManifestLemmas
pub mod PlantLemmas
pub mod ReadLemmas
pub mod SoloLemmas
pub mod TurnLemmas
