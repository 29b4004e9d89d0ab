pub mod RisenCounts
pub mod Attempts
pub mod StepLists
pub mod LargeConstants
