pub mod LowestTwins
pub mod Shared
pub mod LiveNumbered
