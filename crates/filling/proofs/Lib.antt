pub mod Store
pub mod Upto
pub mod AcceptingLoop
pub mod TestsLoop
pub mod RecordsLoop
pub mod HeaderFill
pub mod ChartParts
pub mod FillParts
