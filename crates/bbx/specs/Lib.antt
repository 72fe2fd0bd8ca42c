-- Definitions that contracts cite.
pub mod Act
pub mod PlanFile
