pub mod Convex
pub mod Halving
pub mod Line
pub mod Nearest
pub mod Paying
pub mod Pushed
pub mod Rounding
