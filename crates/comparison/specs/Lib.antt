pub mod Comparison
pub mod Order
pub mod Decoding
