pub mod Shown
pub mod Walks
pub mod SlopeSigns
pub mod FoundRows
mod VerdictRows
