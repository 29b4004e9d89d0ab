pub mod Members
pub mod Iteration
