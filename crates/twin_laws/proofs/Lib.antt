pub mod InRuns
pub mod Numbers
pub mod Before
pub mod Examples
