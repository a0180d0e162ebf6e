pub mod ByAccount
pub mod Found
pub mod Restarted
