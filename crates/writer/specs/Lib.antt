pub mod Writing
pub mod Bytes
pub mod Refusals
