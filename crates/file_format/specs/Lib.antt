pub mod Parse
pub mod Body
pub mod File
pub mod Lengths
pub mod Refusals
pub mod Versions
pub mod Cases
