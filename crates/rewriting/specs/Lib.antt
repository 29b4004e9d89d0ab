pub mod Rewriting
pub mod Parts
pub mod Returned
pub mod Refusals
