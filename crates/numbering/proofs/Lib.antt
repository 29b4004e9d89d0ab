pub mod Settling
pub mod Limits
pub mod NumberedFile
pub mod FloorFound
