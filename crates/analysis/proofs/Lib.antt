pub mod Entry
pub mod Refusals
pub mod Values
pub mod FoundValues
pub mod Before
