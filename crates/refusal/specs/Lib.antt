pub mod Reason
pub mod Refused
