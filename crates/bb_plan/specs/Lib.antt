-- Definitions that contracts cite. A reader has to believe all of them.
pub mod FilesRead
pub mod Installing
pub mod Plan
pub mod PlanSteps
pub mod Refusal
pub mod Status
pub mod Tasks
