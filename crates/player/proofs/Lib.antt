pub mod Files
pub mod Inputs
pub mod Arrivals
pub mod Accepting
pub mod TooLarge
pub mod StepPlaces
pub mod Refusals
pub mod InputsJudged
