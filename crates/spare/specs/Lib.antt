pub mod Part
pub mod Cleared
