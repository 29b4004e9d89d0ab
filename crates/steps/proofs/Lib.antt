pub mod Held
pub mod FirstPlaces
pub mod TransitionPlaces
pub mod TestTurns
pub mod MovedCounts
pub mod Starting
pub mod Attempts
pub mod StepLists
