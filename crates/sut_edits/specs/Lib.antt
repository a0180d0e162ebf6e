pub mod Edits
pub mod EditsFile
pub mod EditRules
