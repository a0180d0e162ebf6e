pub mod FoundOn
