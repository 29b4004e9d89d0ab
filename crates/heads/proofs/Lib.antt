pub mod Lengths
pub mod InOrder
pub mod Blocks
pub mod Counts
pub mod Judging
pub mod AfterCharts
