pub mod CodePairs
pub mod ChartPairs
pub mod Growth
pub mod Sweeps
pub mod Propagated
pub mod LinkFinding
