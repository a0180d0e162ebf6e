pub mod Bounds
pub mod Progress
pub mod Scales
