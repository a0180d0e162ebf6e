pub mod BalancedText
pub mod BalancedFile
pub mod ReadingView
