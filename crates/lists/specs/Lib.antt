pub mod Lists
pub mod Rising
pub mod Elements
