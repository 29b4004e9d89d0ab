pub mod Worklist
pub mod GoneOver
