pub mod Keeping
pub mod NumberLemmas
pub mod Spelling
mod WorkedNumbers
