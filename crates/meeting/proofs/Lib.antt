pub mod Meeting
pub mod Plans
