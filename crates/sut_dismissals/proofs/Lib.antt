pub mod DismissLemmas
