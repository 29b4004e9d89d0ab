pub mod Cells
pub mod FamiliesAt
pub mod Rows
pub mod Turns
