pub mod Alike
pub mod Own
pub mod Merging
pub mod Sharing
pub mod Listed
pub mod LiveNumbers
