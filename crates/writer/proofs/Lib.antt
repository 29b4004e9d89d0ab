pub mod Stores
pub mod FieldBytes
pub mod RecordBytes
pub mod FileBytes
pub mod TimersLeft
pub mod Writing
pub mod Refusals
