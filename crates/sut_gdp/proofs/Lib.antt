pub mod PartSums
