pub mod Rules
pub mod Marks
pub mod Seats
pub mod ReviewText
