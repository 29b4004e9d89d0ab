pub mod DemandHolds
pub mod RewrittenFile
pub mod Points
pub mod OnFiles
pub mod AnyVersion
pub mod CounterHolds
pub mod TwinsShown
