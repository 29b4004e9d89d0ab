pub mod Counts
pub mod Stepping
pub mod Playing
