pub mod EdgeLists
pub mod Skipping
pub mod Differing
pub mod NextRound
pub mod Turns
pub mod ChartFlows
