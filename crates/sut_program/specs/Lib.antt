pub mod ErrorTexts
pub mod Programs
