pub mod SessionFacts
pub mod Standing
pub mod SessionView
pub mod SmallSets
pub mod Following
