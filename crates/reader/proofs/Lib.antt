pub mod Lengths
pub mod ReadParts
pub mod Refusals
