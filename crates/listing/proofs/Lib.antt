pub mod Decimal
pub mod PutBytes
pub mod Parts
pub mod Cells
pub mod Fits
pub mod ChartText
pub mod Accepted
mod Board
pub mod Inputs
pub mod Outcomes
pub mod Digits
pub mod Refusals
pub mod Example
pub mod FloorWord
pub mod SpareLine
