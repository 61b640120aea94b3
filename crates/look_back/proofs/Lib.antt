pub mod PlaceLaws
pub mod PlaneLaws
pub mod LookedLaws
pub mod Bench
