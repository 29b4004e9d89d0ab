pub mod Pairs
pub mod Propagation
