pub mod Held
pub mod Choosing
pub mod Leaving
