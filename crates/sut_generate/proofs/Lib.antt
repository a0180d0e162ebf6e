pub mod Drawing
pub mod Lines
mod WorkedYears
