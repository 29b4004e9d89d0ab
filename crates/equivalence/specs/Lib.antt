pub mod Both
pub mod Demand
pub mod Points
pub mod OnFiles
pub mod AnyVersion
pub mod CounterDemand
