pub mod SharingPlan
pub mod FamilyPlans
pub mod CountedOnce
