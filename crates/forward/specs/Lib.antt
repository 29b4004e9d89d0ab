pub mod Forward
pub mod Working
