pub mod CheckSteps
pub mod ReadAnswers
pub mod ReadClaims
pub mod Found
pub mod Ended
pub mod Asked
