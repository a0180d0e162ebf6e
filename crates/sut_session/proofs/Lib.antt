pub mod Steps
pub mod ArcChanges
pub mod Solved
pub mod Moved
pub mod OneMoved
pub mod TargetMoved
pub mod Rebalanced
pub mod LastTables
