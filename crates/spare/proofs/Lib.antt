pub mod Filtered
pub mod Moved
pub mod ReachedLists
pub mod Turns
pub mod Parts
pub mod Clearing
pub mod ClearedLists
