pub mod Analysing
pub mod Refusals
pub mod Found
pub mod Before
