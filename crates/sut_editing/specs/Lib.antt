pub mod Moments
pub mod Events
pub mod Near
pub mod Answered
pub mod Shown
pub mod Reached
pub mod EditedRows
