pub mod Numbers
pub mod Within
pub mod RisingLoop
pub mod StartsLoop
pub mod Parts
