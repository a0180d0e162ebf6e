pub mod ReadLemmas
pub mod StepLemmas
pub mod EditSteps
pub mod FollowingSteps
pub mod TableSteps
pub mod AskSteps
pub mod YearNames
pub mod SeriesSteps
