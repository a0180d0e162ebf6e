pub mod Bounded
pub mod Grown
pub mod Linked
pub mod Lookups
pub mod ReadArcs
