pub mod Digits
pub mod Members
pub mod Machine
pub mod Counts
pub mod Below
pub mod LowestMember
pub mod Images
pub mod Computing
