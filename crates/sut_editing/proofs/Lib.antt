pub mod Labels
pub mod EventLists
pub mod Rows
pub mod NearLast
pub mod Reaching
pub mod Finishing
pub mod Answering
