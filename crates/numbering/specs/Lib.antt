pub mod Held
pub mod ChartNumbered
pub mod FloorAsked
pub mod Limits
pub mod FileNumbers
