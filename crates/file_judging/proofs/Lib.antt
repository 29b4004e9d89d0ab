pub mod FrameParts
pub mod HeaderParts
pub mod TestsLoop
pub mod RecordParts
pub mod Loops
pub mod JudgeParts
