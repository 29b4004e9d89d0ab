pub mod Judging
pub mod Tested
pub mod Places
pub mod Charts
pub mod Refusals
