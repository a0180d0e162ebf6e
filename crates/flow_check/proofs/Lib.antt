pub mod Cuts
pub mod Finer
pub mod Refutes
pub mod Shown
pub mod Sums
pub mod Touching
pub mod WeakDuality
pub mod Worked
