pub mod FromLists
pub mod Parts
pub mod Refusals
pub mod Typed
pub mod FileFrom
