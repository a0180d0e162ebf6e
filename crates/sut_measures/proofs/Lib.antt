pub mod KeyLemmas
pub mod OrderLemmas
mod WorkedNames
pub mod TotalsBy
pub mod CodePlaces
pub mod NameParts
pub mod NamedLemmas
pub mod KindLemmas
pub mod ShapeLemmas
pub mod ReadLemmas
pub mod SpelledLemmas
pub mod RoundTrip
