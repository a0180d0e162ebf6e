pub mod Reads
pub mod Inputs
pub mod EditInputs
pub mod Following
pub mod TableInputs
pub mod AskInputs
pub mod SeriesInputs
