pub mod CodeLemmas
pub mod PlaceLemmas
pub mod KeptLemmas
pub mod ViewLemmas
pub mod LineLemmas
pub mod FileLemmas
pub mod PrintLemmas
pub mod PlainLines
pub mod ReadBack
mod WorkedClasses
