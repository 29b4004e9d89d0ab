pub mod StepLists
pub mod Counts
pub mod Stepping
