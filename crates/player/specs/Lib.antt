pub mod Playing
pub mod Refusals
