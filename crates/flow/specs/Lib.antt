pub mod Edges
pub mod Rounds
