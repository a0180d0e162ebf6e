pub mod DismissFile
pub mod DismissRules
