pub mod InRuns
pub mod Before
