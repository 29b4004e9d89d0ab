pub mod Text
pub mod Listing
pub mod PutBytes
pub mod Cells
pub mod Refusals
