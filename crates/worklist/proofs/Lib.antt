pub mod Leaving
pub mod Waiting
pub mod GoingOver
