pub mod MadeLists
pub mod MadeYears
