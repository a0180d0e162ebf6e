pub mod Following
pub mod Frontier
pub mod Heap
pub mod Labels
