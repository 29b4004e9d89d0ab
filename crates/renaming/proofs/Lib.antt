pub mod Sets
pub mod Timers
pub mod Turns
