pub mod OddValue
