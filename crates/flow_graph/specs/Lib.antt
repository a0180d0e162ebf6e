pub mod Circulation
pub mod Condition
pub mod Contradiction
pub mod Incidence
pub mod Network
pub mod Updates
