pub mod Fewest
pub mod DifferentNumbers
pub mod ChartPlans
pub mod CountedOnce
pub mod Fullest
pub mod FamilyCounts
pub mod Floor
pub mod AnyPlan
