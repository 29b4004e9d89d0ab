pub mod RowPlans
pub mod Search
pub mod Cliques
