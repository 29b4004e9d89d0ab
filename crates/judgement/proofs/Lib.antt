pub mod Tested
pub mod Unreached
pub mod Judging
pub mod Held
pub mod Reading
pub mod Callers
pub mod Corollaries
