pub mod Asked
pub mod SeatLists
pub mod ReviewLines
pub mod Histories
pub mod Tallies
