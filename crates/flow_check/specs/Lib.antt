pub mod Duality
pub mod FinerUnits
pub mod Shown
