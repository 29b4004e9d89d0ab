pub mod Counter
pub mod CounterRun
pub mod CounterPlayer
pub mod CounterClaim
pub mod Constants
pub mod Refusals
pub mod Cases
pub mod Examples
