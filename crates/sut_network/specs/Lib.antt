pub mod Building
pub mod Networks
pub mod NetworkLaws
