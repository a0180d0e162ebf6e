pub mod Edges
pub mod Excess
pub mod Flows
pub mod Gaps
pub mod Path
pub mod Rooms
