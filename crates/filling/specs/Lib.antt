pub mod Filling
pub mod Parts
