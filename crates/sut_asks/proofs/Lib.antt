pub mod AskLemmas
pub mod MeasureSearch
