pub mod Codes
pub mod FaultWords
pub mod YearFiles
pub mod BrokenTexts
pub mod Endings
pub mod StatusLines
