pub mod Balanced
pub mod ByAccount
pub mod Grown
pub mod Put
pub mod Scaled
