pub mod Visiting
pub mod Ending
pub mod Lent
pub mod ChartSets
