pub mod GradeLemmas
pub mod PlaceLemmas
pub mod ReadLemmas
mod WorkedSettings
