pub mod Exchange
pub mod Placing
pub mod Whole
pub mod Cliques
